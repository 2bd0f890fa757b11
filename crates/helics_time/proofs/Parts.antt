-- Lemmas on the digits behind a point.
use Rattle.std.proofs.Common.{◌≡◌, ℕ, zero, suc, ◌≤◌, ◌+◌, ◌*◌, ◌-◌, ◌<◌, ◌%◌, ◌/◌, ◌^◌, Bool, true, cond, ap, arith, subst, ◌∙◌, List, [], ◌∷◌, ◌++◌, length, get_or, take, drop, Some, None, drop-cons}
use Rattle.std.specs.Prelude.{option_and_then}
use Rattle.std.specs.Str.{all_ascii_digits}
use Rattle.std.proofs.lemmas.Str.Parse.{tells_all_ascii_digits}
use Rattle.std.proofs.lemmas.List.{take-append-drop}
use Rattle.std.proofs.lemmas.Bool.{ne_eqb}
use Rattle.helics_time.specs.Spelled.{number_after, number_of}
use Rattle.helics_time.specs.Steps.{part_of, tenth}

-- what is not whole from a place on is not whole
pub none_before : (unit : ℕ) (xs ys : List ℕ) → part_of unit ys ≡ None → part_of unit (xs ++ ys) ≡ None
none_before unit [] ys e = e
none_before unit (x ∷ xs) ys e = ap (option_and_then (λ later. tenth ((x - 48) * unit + later))) (none_before unit xs ys e)

-- one digit more in front
pub one_more : (unit : ℕ) (digits : List ℕ) (place sum : ℕ) → place < length digits → part_of unit (drop (suc place) digits) ≡ Some sum
    → part_of unit (drop place digits) ≡ tenth ((get_or digits place 0 - 48) * unit + sum)
one_more unit digits place sum lt e =
    ap (part_of unit) (drop-cons digits place 0 lt) ∙ ap (option_and_then (λ later. tenth ((get_or digits place 0 - 48) * unit + later))) e

-- a byte of digits
pub digit_in : (ds : List ℕ) (i : ℕ) → all_ascii_digits ds ≡ true → i < length ds → (48 ≤ get_or ds i 0) × (get_or ds i 0 < 58)
digit_in [] i h lt = absurd (omega arith)
digit_in (c ∷ cs) zero h lt = let r = (tells_all_ascii_digits.parts c cs h).0 in (omega (arith, r), omega (arith, r))
digit_in (c ∷ cs) (suc i) h lt = digit_in cs i ((tells_all_ascii_digits.parts c cs h).1) (omega arith)

-- a sum that isn't ten times a number stops it
pub not_whole : (unit : ℕ) (digits : List ℕ) (place sum : ℕ) → place < length digits → part_of unit (drop (suc place) digits) ≡ Some sum
    → tenth ((get_or digits place 0 - 48) * unit + sum) ≡ None → part_of unit digits ≡ None
not_whole unit digits place sum lt e none =
    subst (λ (ds : List ℕ). part_of unit ds ≡ None) (take-append-drop place digits)
    (none_before unit (take place digits) (drop place digits) (one_more unit digits place sum lt e ∙ none))

pub no_tenth : (n : ℕ) → (n % 10 ≡ 0 → ⊥) → tenth n ≡ None
no_tenth n h = ap (λ (b : Bool). cond b (Some (n / 10)) None) (ne_eqb (n % 10) 0 h)

-- more digits make no number smaller
pub grows : (n : ℕ) (cs : List ℕ) → n ≤ number_after n cs
grows n [] = omega arith
grows n (c ∷ cs) = omega (arith, grows (10 * n + (c - 48)) cs)

pub one_digit : (n place : ℕ) (digits : List ℕ) → place < length digits
    → number_after n (drop place digits) ≡ number_after (10 * n + (get_or digits place 0 - 48)) (drop (suc place) digits)
one_digit n place digits lt = ap (number_after n) (drop-cons digits place 0 lt)

-- a number that has outgrown 64 bits
pub outgrown : (n place : ℕ) (digits : List ℕ) → place < length digits → 2 ^ 64 ≤ 10 * n + (get_or digits place 0 - 48)
    → number_after n (drop place digits) ≡ number_of digits → 2 ^ 64 ≤ number_of digits
outgrown n place digits lt big e =
    omega (arith, grows (10 * n + (get_or digits place 0 - 48)) (drop (suc place) digits), one_digit n place digits lt, e)
