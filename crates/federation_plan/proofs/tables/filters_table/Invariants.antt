use Rattle.std.proofs.Common.{◌≡◌, ◌<◌, ℕ, [], length}
use Rattle.hel_values.specs.declared.EndRef.{EndRef}
use Rattle.federation_plan.specs.Interfaces.{federate_at}
use Rattle.federation_plan.specs.Tables.{row_at, entry}
use Rattle.federation_plan.proofs.tables.filters_table.Given as goal

abbrev pub invariant-loop-federate : goal.invariant-loop-federate
invariant-loop-federate l = record {
  count : length l.table ≡ l.federate-index;
  places : (f : ℕ) → f < l.federate-index → length (row_at l.table f) ≡ length (federate_at l.federates f).endpoints;
  blank : (r : EndRef) → entry l.table r ≡ [];
}
