use Rattle.std.proofs.Common.{◌≡◌, ℕ, length}
use Rattle.std.specs.HashMap.{get_by_text}
use Rattle.federation_plan.specs.Tables.{row_at}
use Rattle.federation_plan.proofs.Attached.{IsAttachingFrom}
use Rattle.federation_plan.proofs.tables.attach_inputs.Given as goal

abbrev pub invariant-loop-f : goal.invariant-loop-f
invariant-loop-f l = record {
  places : (g : ℕ) → length (row_at l.table g) ≡ length (row_at l.fn.table g);
  entries : IsAttachingFrom (get_by_text l.publications) (λ i. i.targets) (λ fed. fed.inputs) l.table l.f l.federates;
}
