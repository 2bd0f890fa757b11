use Rattle.std.specs.HashMap.{get_by_text}
use Rattle.federation_plan.specs.Interfaces.{interfaces_in}
use Rattle.federation_plan.specs.Refusal.{first_some, missing_at}
use Rattle.federation_plan.proofs.Firsts.{IsLeftIn}
use Rattle.federation_plan.proofs.refusal.check_required_of.Given as goal

abbrev pub invariant-loop-input : goal.invariant-loop-input
invariant-loop-input l = IsLeftIn (missing_at (get_by_text l.publications))
    (first_some (missing_at (get_by_text l.publications)) (interfaces_in l.federate.name l.f 0 l.federate.inputs)) l.federate.name l.f l.input-index l.federate.inputs
