-- The digits in front are digits.
use Rattle.std.proofs.Common.{◌≡◌, ℕ, Bool, true, false, cond, refl, ap, ◌∙◌, List, [], ◌∷◌, length, take, take_while}
use Rattle.std.specs.Str.{all_ascii_digits}
use Rattle.std.proofs.lemmas.List.Sums.{take_while-cons}
use Rattle.helics_time.specs.Spelled.{is_digit, fraction_of}

go_take : (b : Bool) (x : ℕ) (xs ys : List ℕ) → is_digit x ≡ b → all_ascii_digits (take (length ys) xs) ≡ true
    → all_ascii_digits (take (length (cond b (x ∷ ys) [])) (x ∷ xs)) ≡ true
go_take true x xs ys e ih = rw e ih
go_take false x xs ys e ih = refl

pub ahead : (xs : List ℕ) → all_ascii_digits (take (length (take_while is_digit xs)) xs) ≡ true
ahead [] = refl
ahead (x ∷ xs) =
    ap (λ (ys : List ℕ). all_ascii_digits (take (length ys) (x ∷ xs))) (take_while-cons is_digit x xs)
    ∙ go_take (is_digit x) x xs (take_while is_digit xs) refl (ahead xs)

go_while : (b : Bool) (x : ℕ) (ys : List ℕ) → is_digit x ≡ b → all_ascii_digits ys ≡ true → all_ascii_digits (cond b (x ∷ ys) []) ≡ true
go_while true x ys e ih = rw e ih
go_while false x ys e ih = refl

pub ahead_while : (xs : List ℕ) → all_ascii_digits (take_while is_digit xs) ≡ true
ahead_while [] = refl
ahead_while (x ∷ xs) =
    ap all_ascii_digits (take_while-cons is_digit x xs) ∙ go_while (is_digit x) x (take_while is_digit xs) refl (ahead_while xs)

go_point : (b : Bool) (ys : List ℕ) → all_ascii_digits ys ≡ true → all_ascii_digits (cond b ys []) ≡ true
go_point true ys h = h
go_point false ys h = refl

pub ahead_fraction : (xs : List ℕ) → all_ascii_digits (fraction_of xs) ≡ true
ahead_fraction [] = refl
ahead_fraction (x ∷ xs) = go_point _ (take_while is_digit xs) (ahead_while xs)
