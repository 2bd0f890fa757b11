use Rattle.std.proofs.Common.{take}
use Rattle.hel_lists.specs.Members.{Each}
use Rattle.interface_names.specs.Filter.{KeepsBounds}
use Rattle.federation_plan.proofs.plan.know_filters.Given as goal

abbrev pub invariant-loop-filter : goal.invariant-loop-filter
invariant-loop-filter l = Each (λ t. KeepsBounds t.kind t.destination_of) (take l.filter-index l.filters)
