-- What the words of parts are after one part has changed.
use Rattle.std.proofs.Common.{ℕ, zero, suc, ◌-◌, ◌*◌, ◌<◌, ◌≤◌, ◌≡◌, refl, ap, sym, ◌∙◌, List, [], ◌∷◌, ◌++◌, length, get_or, drop, arith, suc-mul}
use Rattle.std.specs.Prelude.{slice_set}
use Rattle.std.proofs.lemmas.List.{append-nil, append_assoc, length-append, drop_all}
use Rattle.fed_script.specs.declared.word.Word.{Word}
use Rattle.fed_script.specs.declared.rounds.Part.{Part}
use Rattle.fed_script.specs.declared.rounds.Part.TheVariants.{Word as SingleWord, Repeat}
use Rattle.std.specs.List.{repeat}
use Rattle.fed_script.specs.Rounds.{words_of, rest_of, unrolled, rest_from, IsFresh, AreFresh, OthersFresh}

-- one round, and then the others
pub copies_first : {A : Type 0} (n : ℕ) (xs : List A) → 0 < n → xs ++ repeat (n - 1) xs ≡ repeat n xs
copies_first zero xs some = absurd (omega arith)
copies_first {A = A} (suc n) xs some = let e : suc n - 1 ≡ n = omega arith in ap (λ k. xs ++ repeat k xs) e

pub no_copies : {A : Type 0} (xs : List A) → repeat zero xs ≡ []
no_copies xs = refl

-- what is left is what is left of the part at the place, and all that comes behind it
pub rest_from_at : (n : ℕ) (parts : List Part) (p : Part) → n < length parts → p ≡ get_or parts n p → rest_from n parts ≡ rest_of p ++ unrolled (drop (suc n) parts)
rest_from_at n [] p within at = absurd (omega arith)
rest_from_at zero (part ∷ parts) p within at = ap (λ q. rest_of q ++ unrolled parts) (sym at)
rest_from_at (suc n) (part ∷ parts) p within at = rest_from_at n parts p (omega arith) at

pub rest_from_set : (n : ℕ) (parts : List Part) (q : Part) → n < length parts → rest_from n (slice_set parts n q) ≡ rest_of q ++ unrolled (drop (suc n) parts)
rest_from_set n [] q within = absurd (omega arith)
rest_from_set zero (part ∷ parts) q within = refl
rest_from_set (suc n) (part ∷ parts) q within = rest_from_set n parts q (omega arith)

pub rest_from_fresh : (n : ℕ) (parts : List Part) → AreFresh parts → rest_from n parts ≡ unrolled (drop n parts)
rest_from_fresh zero [] fresh = refl
rest_from_fresh (suc n) [] fresh = refl
rest_from_fresh zero (SingleWord word ∷ parts) fresh = refl
rest_from_fresh zero (Repeat r ∷ parts) fresh = ap (λ ws. ws ++ unrolled parts) fresh.0
rest_from_fresh (suc n) (part ∷ parts) fresh = rest_from_fresh n parts fresh.1

pub unrolled_set : (n : ℕ) (parts : List Part) (p q : Part) → p ≡ get_or parts n p → words_of q ≡ words_of p → unrolled (slice_set parts n q) ≡ unrolled parts
unrolled_set n [] p q at same = refl
unrolled_set zero (part ∷ parts) p q at same = ap (λ ws. ws ++ unrolled parts) (same ∙ ap words_of at)
unrolled_set (suc n) (part ∷ parts) p q at same = ap (λ ws. words_of part ++ ws) (unrolled_set n parts p q at same)

pub behind_set : (n : ℕ) (parts : List Part) (q : Part) → drop (suc n) (slice_set parts n q) ≡ drop (suc n) parts
behind_set n [] q = refl
behind_set zero (part ∷ parts) q = refl
behind_set (suc n) (part ∷ parts) q = behind_set n parts q

pub others_set : (n : ℕ) (parts : List Part) (q : Part) → OthersFresh n parts → OthersFresh n (slice_set parts n q)
others_set zero [] q fresh = tt
others_set (suc n) [] q fresh = tt
others_set zero (part ∷ parts) q fresh = fresh
others_set (suc n) (part ∷ parts) q fresh = (fresh.0, others_set n parts q fresh.1)

pub all_set : (n : ℕ) (parts : List Part) (q : Part) → OthersFresh n parts → IsFresh q → AreFresh (slice_set parts n q)
all_set zero [] q fresh is = tt
all_set (suc n) [] q fresh is = tt
all_set zero (part ∷ parts) q fresh is = (is, fresh)
all_set (suc n) (part ∷ parts) q fresh is = (fresh.0, all_set n parts q fresh.1 is)

pub others_of_all : (n : ℕ) (parts : List Part) → AreFresh parts → OthersFresh n parts
others_of_all zero [] fresh = tt
others_of_all (suc n) [] fresh = tt
others_of_all zero (part ∷ parts) fresh = fresh.1
others_of_all (suc n) (part ∷ parts) fresh = (fresh.0, others_of_all n parts fresh.1)

-- the part at the place goes on
pub goes_on : (n left : ℕ) (parts : List Part) (p q : Part) (word : Word) → n < length parts → p ≡ get_or parts n p → rest_of p ≡ word ∷ rest_of q → words_of q ≡ words_of p
    → rest_from n parts ++ repeat left (unrolled parts) ≡ word ∷ (rest_from n (slice_set parts n q) ++ repeat left (unrolled (slice_set parts n q)))
goes_on n left parts p q word within at passes same =
    rw (rest_from_at n parts p within at, passes, rest_from_set n parts q within, unrolled_set n parts p q at same) refl

-- the next part begins
pub begins : (n left : ℕ) (parts : List Part) (p q : Part) (word : Word) → n < length parts → p ≡ get_or parts n p → rest_of p ≡ word ∷ [] → words_of q ≡ words_of p
    → OthersFresh n parts → IsFresh q
    → rest_from n parts ++ repeat left (unrolled parts) ≡ word ∷ (rest_from (suc n) (slice_set parts n q) ++ repeat left (unrolled (slice_set parts n q)))
begins n left parts p q word within at passes same fresh is =
    rw (rest_from_at n parts p within at, passes, rest_from_fresh (suc n) (slice_set parts n q) (all_set n parts q fresh is), behind_set n parts q, unrolled_set n parts p q at same) refl

-- the last part of a round ends
pub ends : (n left : ℕ) (parts : List Part) (p : Part) (word : Word) → n < length parts → length parts ≤ suc n → p ≡ get_or parts n p → rest_of p ≡ word ∷ []
    → rest_from n parts ++ repeat left (unrolled parts) ≡ word ∷ repeat left (unrolled parts)
ends n left parts p word within last at passes =
    rw (rest_from_at n parts p within at, passes, drop_all (suc n) parts last) refl

-- so many rounds that begin
pub round : (times : ℕ) (parts : List Part) → 0 < times → AreFresh parts → rest_from 0 parts ++ repeat (times - 1) (unrolled parts) ≡ repeat times (unrolled parts)
round times parts some fresh = rw (rest_from_fresh 0 parts fresh) (copies_first times (unrolled parts) some)

pub one_copy : {A : Type 0} (xs : List A) → repeat 1 xs ≡ xs
one_copy xs = append-nil xs

pub copies_of_none : {A : Type 0} (n : ℕ) → repeat {A = A} n [] ≡ []
copies_of_none zero = refl
copies_of_none (suc n) = copies_of_none n

pub length_copies : {A : Type 0} (n : ℕ) (xs : List A) → length (repeat n xs) ≡ n * length xs
length_copies zero xs = omega arith
length_copies (suc n) xs = length-append xs (repeat n xs) ∙ omega (arith, length_copies n xs, suc-mul n (length xs))

-- a part is put behind the others
pub fresh_push : (parts : List Part) (part : Part) → AreFresh parts → IsFresh part → AreFresh (parts ++ part ∷ [])
fresh_push [] part fresh is = (is, tt)
fresh_push (p ∷ parts) part fresh is = (fresh.0, fresh_push parts part fresh.1 is)

pub unrolled_push : (parts : List Part) (part : Part) → unrolled (parts ++ part ∷ []) ≡ unrolled parts ++ words_of part
unrolled_push [] part = append-nil (words_of part)
unrolled_push (p ∷ parts) part = ap (λ ws. words_of p ++ ws) (unrolled_push parts part) ∙ sym (append_assoc (words_of p) (unrolled parts) (words_of part))
