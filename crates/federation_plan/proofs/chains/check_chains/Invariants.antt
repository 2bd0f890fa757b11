use Rattle.federation_plan.specs.Interfaces.{endpoints}
use Rattle.federation_plan.specs.Refusal.{first_some}
use Rattle.federation_plan.specs.Tables.{too_long_in}
use Rattle.federation_plan.proofs.Firsts.{IsLeftFrom}
use Rattle.federation_plan.proofs.chains.check_chains.Given as goal

abbrev pub invariant-loop-f : goal.invariant-loop-f
invariant-loop-f l = IsLeftFrom (λ fed. fed.endpoints) (too_long_in l.sources l.destinations)
    (first_some (too_long_in l.sources l.destinations) (endpoints l.federates)) l.f l.federates
