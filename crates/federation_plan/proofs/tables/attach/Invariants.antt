use Rattle.std.proofs.Common.{◌≡◌, ℕ, [], ◌∷◌, ◌++◌, length, take}
use Rattle.std.specs.Prelude.{if◌then◌else◌}
use Rattle.std.specs.HashMap.{get_by_text}
use Rattle.hel_values.specs.declared.EndRef.{EndRef}
use Rattle.federation_plan.specs.Interfaces.{name_ref}
use Rattle.federation_plan.specs.Tables.{row_at, entry}
use Rattle.federation_plan.proofs.tables.attach.Given as goal

abbrev pub invariant-loop-name : goal.invariant-loop-name
invariant-loop-name l = record {
  places : (f : ℕ) → length (row_at l.table f) ≡ length (row_at l.fn.table f);
  entries : (r : EndRef) → entry l.table r ≡ entry l.fn.table r ++ (if name_ref (get_by_text l.names) (take l.name-index l.targets) r then l.by ∷ [] else []);
}
