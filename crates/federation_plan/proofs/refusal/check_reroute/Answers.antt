use Rattle.std.proofs.Common.{inr, List, ℕ}
use Rattle.std.specs.HashMap.{get_by_text}
use Rattle.federation_plan.specs.declared.refusal.PlanRefusal.TheVariants.{FilterTarget}
use Rattle.federation_plan.proofs.Firsts.{refused_alone}
use Rattle.federation_plan.proofs.refusal.check_reroute.Goals as goal

pub returns : goal.returns
returns c = inr (refused_alone (get_by_text c.args.endpoints.now) (λ (name : List ℕ). FilterTarget name) c.as_str.result.now c.args.name.now c.in_ok-name.name
    c.if-contains_key.ensures c.as_str.ensures c.in_ok-name.ensures)
