use Rattle.std.specs.HashMap.{get_by_text}
use Rattle.federation_plan.specs.Interfaces.{interfaces_in}
use Rattle.federation_plan.specs.Refusal.{first_some, target_at}
use Rattle.federation_plan.proofs.Firsts.{IsLeftIn}
use Rattle.federation_plan.proofs.refusal.check_filters_of.Given as goal

abbrev pub invariant-loop-filter : goal.invariant-loop-filter
invariant-loop-filter l = IsLeftIn (target_at (get_by_text l.endpoints))
    (first_some (target_at (get_by_text l.endpoints)) (interfaces_in l.federate.name l.f 0 l.federate.filters)) l.federate.name l.f l.filter-index l.federate.filters
