-- Lists that are mapped one item after another.
use Rattle.std.proofs.Common.{◌≡◌, ℕ, zero, suc, ◌+◌, ◌<◌, List, [], ◌∷◌, ◌++◌, length, take, drop, refl, ap, ◌∙◌, sym, arith, add-one}
use Rattle.std.specs.Prelude.{map, slice_set, slice_index_or}

-- one more item is mapped
map_more : {A : Type 0} (f : A → A) (xs : List A) (i : ℕ) (d : A) → i < length xs → slice_set (map f (take i xs) ++ drop i xs) i (f (slice_index_or xs i d)) ≡ map f (take (suc i) xs) ++ drop (suc i) xs
map_more f [] i d within = absurd (omega arith)
map_more f (x ∷ xs) zero d within = refl
map_more {A = A} f (x ∷ xs) (suc i) d within = ap (λ (l : List A). f x ∷ l) (map_more f xs i d (omega arith))

-- the next item is as it was
pub map_at : {A : Type 0} (f : A → A) (xs : List A) (i : ℕ) (d : A) → i < length xs → slice_index_or (map f (take i xs) ++ drop i xs) i d ≡ slice_index_or xs i d
map_at f [] i d within = absurd (omega arith)
map_at f (x ∷ xs) zero d within = refl
map_at f (x ∷ xs) (suc i) d within = map_at f xs i d (omega arith)

-- a list that is mapped up to i, with its item at i mapped too
pub map_next : {A : Type 0} (f : A → A) (xs ys zs : List A) (i : ℕ) (d : A) → i < length xs → ys ≡ map f (take i xs) ++ drop i xs → zs ≡ slice_set ys i (f (slice_index_or ys i d)) →
    zs ≡ map f (take (i + 1) xs) ++ drop (i + 1) xs
map_next f xs ys zs i d within was now =
    now ∙ ap (λ l. slice_set l i (f (slice_index_or l i d))) was
    ∙ ap (λ x. slice_set (map f (take i xs) ++ drop i xs) i (f x)) (map_at f xs i d within)
    ∙ map_more f xs i d within ∙ ap (λ k. map f (take k xs) ++ drop k xs) (sym (add-one i))
