use Rattle.federation_plan.specs.Interfaces.{interfaces_in}
use Rattle.federation_plan.specs.Refusal.{first_some}
use Rattle.federation_plan.specs.Tables.{too_long_in}
use Rattle.federation_plan.proofs.Firsts.{IsLeftIn}
use Rattle.federation_plan.proofs.chains.check_chains_of.Given as goal

abbrev pub invariant-loop-index : goal.invariant-loop-index
invariant-loop-index l = IsLeftIn (too_long_in l.sources l.destinations)
    (first_some (too_long_in l.sources l.destinations) (interfaces_in l.federate.name l.f 0 l.federate.endpoints)) l.federate.name l.f l.index l.federate.endpoints
