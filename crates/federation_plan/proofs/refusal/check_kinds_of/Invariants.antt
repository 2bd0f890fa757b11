use Rattle.std.specs.HashMap.{get_by_text}
use Rattle.federation_plan.specs.Interfaces.{interfaces_in}
use Rattle.federation_plan.specs.Refusal.{first_some, mismatch_at}
use Rattle.federation_plan.proofs.Firsts.{IsLeftIn}
use Rattle.federation_plan.proofs.refusal.check_kinds_of.Given as goal

abbrev pub invariant-loop-index : goal.invariant-loop-index
invariant-loop-index l = IsLeftIn (mismatch_at (get_by_text l.publications) l.federates)
    (first_some (mismatch_at (get_by_text l.publications) l.federates) (interfaces_in l.federate.name l.f 0 l.federate.inputs)) l.federate.name l.f l.index l.federate.inputs
