-- Lists that a loop makes item by item.
use Rattle.std.proofs.Common.{◌≡◌, ◌∙◌, ℕ, ◌+◌, ◌<◌, List, [], ◌∷◌, ◌++◌, Option, length, get_or, take, ap, sym, append_assoc}
use Rattle.std.specs.List.{filter_map}
use Rattle.std.proofs.lemmas.List.{take_more}
use Rattle.std.proofs.lemmas.List.Elements.{filter_map-append}

-- what h gives of the first items, with what it gives of the next
pub filter_map_grown : {X Y : Type 0} (h : X → Option Y) (xs : List X) (i : ℕ) (x : X) (first before after : List Y)
    → i < length xs → x ≡ get_or xs i x
    → before ≡ first ++ filter_map h (take i xs) → after ≡ before ++ filter_map h (x ∷ [])
    → after ≡ first ++ filter_map h (take (i + 1) xs)
filter_map_grown {X} {Y} h xs i x first before after below at was grown =
    let more : filter_map h (take (i + 1) xs) ≡ filter_map h (take i xs) ++ filter_map h (x ∷ []) =
    ap (filter_map h) (take_more xs i x below) ∙ filter_map-append h (take i xs) (get_or xs i x ∷ [])
    ∙ ap (λ (y : X). filter_map h (take i xs) ++ filter_map h (y ∷ [])) (sym at) in
    grown ∙ ap (λ (ys : List Y). ys ++ filter_map h (x ∷ [])) was
    ∙ append_assoc first (filter_map h (take i xs)) (filter_map h (x ∷ []))
    ∙ ap (λ (ys : List Y). first ++ ys) (sym more)
