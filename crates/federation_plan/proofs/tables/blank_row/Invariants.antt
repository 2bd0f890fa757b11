use Rattle.std.proofs.Common.{◌≡◌, ℕ, [], length, slice_index_or}
use Rattle.federation_plan.proofs.tables.blank_row.Given as goal

abbrev pub invariant-loop : goal.invariant-loop
invariant-loop l = record {
  count : length l.row ≡ l.counter;
  blank : (n : ℕ) → slice_index_or l.row n [] ≡ [];
}
