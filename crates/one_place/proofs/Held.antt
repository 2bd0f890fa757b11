-- What holds of each member of a list.
use Rattle.std.proofs.Common.{ℕ, zero, suc, ◌<◌, List, [], ◌∷◌, length, inl, inr, refl, arith}
use Rattle.std.specs.Prelude.{slice_index_or}
use Rattle.hel_lists.specs.Members.{Each}

-- what holds of each member of a list holds of the one at a place
pub each_at : {A : Type 0} (P : A → Type 0) (xs : List A) (i : ℕ) (d : A) → Each P xs → i < length xs → P (slice_index_or xs i d)
each_at P [] i d each within = absurd (omega arith)
each_at P (x ∷ xs) zero d each within = each x (inl refl)
each_at P (x ∷ xs) (suc i) d each within = each_at P xs i d (λ y among. each y (inr among)) (omega arith)
