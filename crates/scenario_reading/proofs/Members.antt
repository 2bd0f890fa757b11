-- What holds of each member of a list.
use Rattle.std.proofs.Common.{List, [], ◌∷◌, map, sym, subst, inl, inr, refl}
use Rattle.hel_lists.specs.Members.{Each}

-- what holds of what is told of each
pub each_map : {A B : Type 0} (P : B → Type 0) (f : A → B) (xs : List A) → Each (λ x. P (f x)) xs → Each P (map f xs)
each_map P f [] each y among = absurd among
each_map P f (x ∷ xs) each y among = elim among [
  | inl here ↦ subst P (sym here) (each x (inl refl))
  | inr later ↦ each_map P f xs (λ z in_xs. each z (inr in_xs)) y later
]
