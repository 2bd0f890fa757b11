use Rattle.std.proofs.Common.{◌∙◌, ap, sym, subst, List}
use Rattle.message_filters.specs.declared.filter.Filter.{Filter}
use Rattle.message_filters.specs.Chain.{filtered_of, KeepsBounds}
use Rattle.federation_plan.specs.Interfaces.{IsEndpoint}
use Rattle.federation_plan.specs.Chains.{IsFiltered}
use Rattle.federation_plan.proofs.Filtering.{Arrives, source_arrives, destination_arrives, plan_accepted, later_is}
use Rattle.federation_plan.proofs.plan.Plan.filtered.Goals as goal

pub chains_of-requires-in-Kept : goal.chains_of-requires-in-Kept
chains_of-requires-in-Kept c =
    (source_arrives c.args.self.now.federates c.args.from c.args.from.fed c.args.sequence c.args.dest (plan_accepted _ c.chains_of.ensures.accepted) c.requires.dest).end
    c.in-Kept.end c.in-Kept.delay (
    sym (ap (λ (chain : List Filter). filtered_of chain c.args.from.fed c.args.sequence c.args.dest) c.chains_of.ensures.source)
    ∙ sym c.run.ensures.value ∙ c.in-Kept.is
    )

pub returns-in-Kept-clause-is : goal.returns-in-Kept-clause-is
returns-in-Kept-clause-is c =
    let accepted = plan_accepted _ c.chains_of.ensures.accepted in
    let known = (source_arrives c.args.self.now.federates c.args.from c.args.from.fed c.args.sequence c.args.dest accepted c.requires.dest).end
    c.in-Kept.end c.in-Kept.delay (
    sym (ap (λ (chain : List Filter). filtered_of chain c.args.from.fed c.args.sequence c.args.dest) c.chains_of.ensures.source)
    ∙ sym c.run.ensures.value ∙ c.in-Kept.is
    ) in
    let same = c.run-in-Kept.ensures.value
    ∙ ap (λ (chain : List Filter). filtered_of chain c.args.from.fed c.args.sequence c.in-Kept.end) c.chains_of-in-Kept.ensures.destination in
    subst (IsFiltered c.args.self.now.federates) (sym c.put_off.ensures)
    (later_is _ c.in-Kept.delay c.run-in-Kept.result (subst KeepsBounds c.in-Kept.is c.run.ensures.bounds) c.run-in-Kept.ensures.bounds
    (subst (Arrives (IsEndpoint c.args.self.now.federates)) (sym same)
    (destination_arrives c.args.self.now.federates c.in-Kept.end c.args.from.fed c.args.sequence c.in-Kept.end accepted known)))
