-- A table of places that is filled from the last name to the first.
use Rattle.std.proofs.Common.{◌≡◌, ◌∙◌, ℕ, suc, ◌<◌, cond, ap, sym, List, ◌∷◌, length, drop, map, get_or, drop-cons, add-one, Option, Some}
use Rattle.std.specs.Str.{bytes_eq}
use Rattle.std.specs.List.{position_from}

-- the first place of a name among names, of which the first has this place
abbrev pub place_from : ℕ → List (List ℕ) → List ℕ → Option ℕ
place_from place names name = position_from (λ other. bytes_eq other name) place names

-- one name before those that have their places
pub one_before : {A : Type 0} (name_of : A → List ℕ) (xs : List A) (i : ℕ) (x : A) (key q : List ℕ) (old new : Option ℕ)
    → i < length xs → x ≡ get_or xs i x → key ≡ name_of x → old ≡ place_from (suc i) (map name_of (drop (suc i) xs)) q
    → new ≡ cond (bytes_eq key q) (Some i) old → new ≡ place_from i (map name_of (drop i xs)) q
one_before {A = A} name_of xs i x key q old new lt is same known e =
    let rest = map name_of (drop (suc i) xs) in
    e ∙ ap (λ (k : List ℕ). cond (bytes_eq k q) (Some i) old) same
    ∙ ap (λ (o : Option ℕ). cond (bytes_eq (name_of x) q) (Some i) o) (known ∙ ap (λ (n : ℕ). place_from n rest q) (sym (add-one i)))
    ∙ ap (λ (y : A). place_from i (name_of y ∷ rest) q) is
    ∙ ap (λ (ys : List A). place_from i (map name_of ys) q) (sym (drop-cons xs i x lt))
