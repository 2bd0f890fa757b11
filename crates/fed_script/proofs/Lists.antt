-- Lists that are changed from their front on.
use Rattle.std.proofs.Common.{ℕ, zero, suc, ◌<◌, ◌≡◌, refl, ap, List, [], ◌∷◌, ◌++◌, map, length, get_or, drop, arith, Some}
use Rattle.std.specs.Prelude.{slice_set, slice_get}
use Rattle.std.proofs.lemmas.Option.{none-some}

-- the first items of a list through f, and the rest as they are
abbrev pub changed : {A : Type 0} → (A → A) → ℕ → List A → List A
changed f zero xs = xs
changed f (suc n) [] = []
changed f (suc n) (x ∷ xs) = f x ∷ changed f n xs

-- one more
pub changed_next : {A : Type 0} (f : A → A) (n : ℕ) (xs : List A) (d : A) → n < length xs → slice_set (changed f n xs) n (f (get_or (changed f n xs) n d)) ≡ changed f (suc n) xs
changed_next f n [] d within = absurd (omega arith)
changed_next f zero (x ∷ xs) d within = refl
changed_next {A = A} f (suc n) (x ∷ xs) d within = ap (λ (l : List A). f x ∷ l) (changed_next f n xs d (omega arith))

-- all
pub changed_all : {A : Type 0} (f : A → A) (xs : List A) → changed f (length xs) xs ≡ map f xs
changed_all f [] = refl
changed_all {A = A} f (x ∷ xs) = ap (λ (l : List A). f x ∷ l) (changed_all f xs)

pub changed_length : {A : Type 0} (f : A → A) (n : ℕ) (xs : List A) → length (changed f n xs) ≡ length xs
changed_length f zero xs = refl
changed_length f (suc n) [] = refl
changed_length f (suc n) (x ∷ xs) = ap suc (changed_length f n xs)

-- what stands first stands first with more behind it
pub first_append : {A : Type 0} (xs ys : List A) (x : A) → slice_get xs 0 ≡ Some x → slice_get (xs ++ ys) 0 ≡ Some x
first_append [] ys x is = absurd (none-some x is)
first_append (y ∷ xs) ys x is = is

-- what stands first behind a place stands at it
pub first_behind : {A : Type 0} (n : ℕ) (xs : List A) → slice_get (drop n xs) 0 ≡ slice_get xs n
first_behind zero xs = refl
first_behind (suc n) [] = refl
first_behind (suc n) (x ∷ xs) = first_behind n xs
