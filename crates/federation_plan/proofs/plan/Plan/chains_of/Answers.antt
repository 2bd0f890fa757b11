use Rattle.std.proofs.Common.{◌<◌, ℕ, sym, subst, length}
use Rattle.federation_plan.specs.Interfaces.{IsEndpoint}
use Rattle.federation_plan.specs.Plan.{Federation}
use Rattle.federation_plan.proofs.Lists.{row_within}
use Rattle.federation_plan.proofs.plan.Plan.chains_of.Goals as goal

pub at-row-requires : goal.at-row-requires
at-row-requires c =
    let known = subst (λ (p : Federation). IsEndpoint p.federates c.args.at) (sym c.self.view_is) c.requires in
    let here = subst (λ (n : ℕ). c.args.at.index < n) (sym (c.self.invariant.1.chain_places c.args.at.fed)) known in
    subst (λ (f : ℕ). f < length c.self.inside.tables.chains) (sym c.from.ensures) (row_within c.self.inside.tables.chains c.args.at.fed c.args.at.index here)
