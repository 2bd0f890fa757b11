-- Lists in an order in which several may share a place.
use Rattle.std.specs.Prelude.{◌≡◌, Bool, false, if◌then◌else◌, List, [], ◌∷◌}
use Rattle.hel_lists.specs.Members.{Each}

-- none comes before one that stands ahead of it
abbrev pub IsInOrder : {A : Type 0} → (A → A → Bool) → List A → Type 0
IsInOrder before [] = Unit {0}
IsInOrder before (i ∷ items) = Each (λ j. before j i ≡ false) items × IsInOrder before items

-- a list in order with one more, behind those of equal place
abbrev pub insert_by : {A : Type 0} → (A → A → Bool) → A → List A → List A
insert_by before i [] = i ∷ []
insert_by before i (x ∷ xs) = if before i x then i ∷ x ∷ xs else x ∷ insert_by before i xs
