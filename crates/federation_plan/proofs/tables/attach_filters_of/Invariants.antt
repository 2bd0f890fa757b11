use Rattle.std.proofs.Common.{◌≡◌, ℕ, length}
use Rattle.std.specs.HashMap.{get_by_text}
use Rattle.federation_plan.specs.Side.{names_on}
use Rattle.federation_plan.specs.Tables.{row_at}
use Rattle.federation_plan.proofs.Attached.{IsAttachingIn}
use Rattle.federation_plan.proofs.tables.attach_filters_of.Given as goal

abbrev pub invariant-loop-index : goal.invariant-loop-index
invariant-loop-index l = record {
  places : (g : ℕ) → length (row_at l.table g) ≡ length (row_at l.fn.table g);
  entries : IsAttachingIn (get_by_text l.endpoints) (names_on l.side) l.fn.table l.table l.f l.index l.filters;
}
