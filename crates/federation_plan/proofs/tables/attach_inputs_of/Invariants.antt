use Rattle.std.proofs.Common.{◌≡◌, ℕ, length}
use Rattle.std.specs.HashMap.{get_by_text}
use Rattle.federation_plan.specs.Tables.{row_at}
use Rattle.federation_plan.proofs.Attached.{IsAttachingIn}
use Rattle.federation_plan.proofs.tables.attach_inputs_of.Given as goal

abbrev pub invariant-loop-index : goal.invariant-loop-index
invariant-loop-index l = record {
  places : (g : ℕ) → length (row_at l.table g) ≡ length (row_at l.fn.table g);
  entries : IsAttachingIn (get_by_text l.publications) (λ i. i.targets) l.fn.table l.table l.f l.index l.inputs;
}
