use Rattle.std.specs.HashMap.{get_by_text}
use Rattle.federation_plan.specs.Interfaces.{filters}
use Rattle.federation_plan.specs.Refusal.{first_some, target_at}
use Rattle.federation_plan.proofs.Firsts.{IsLeftFrom}
use Rattle.federation_plan.proofs.refusal.check_filters.Given as goal

abbrev pub invariant-loop-f : goal.invariant-loop-f
invariant-loop-f l = IsLeftFrom (λ fed. fed.filters) (target_at (get_by_text l.endpoints))
    (first_some (target_at (get_by_text l.endpoints)) (filters l.federates)) l.f l.federates
