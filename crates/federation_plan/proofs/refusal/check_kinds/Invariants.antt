use Rattle.std.specs.HashMap.{get_by_text}
use Rattle.federation_plan.specs.Interfaces.{inputs}
use Rattle.federation_plan.specs.Refusal.{first_some, mismatch_at}
use Rattle.federation_plan.proofs.Firsts.{IsLeftFrom}
use Rattle.federation_plan.proofs.refusal.check_kinds.Given as goal

abbrev pub invariant-loop-f : goal.invariant-loop-f
invariant-loop-f l = IsLeftFrom (λ fed. fed.inputs) (mismatch_at (get_by_text l.publications) l.federates)
    (first_some (mismatch_at (get_by_text l.publications) l.federates) (inputs l.federates)) l.f l.federates
