-- The federates that may move, one after another.
use Rattle.std.proofs.Common.{◌≡◌, inl, inr, ◌+◌, ◌-◌, ◌<◌, ◌≤◌, ℕ, zero, suc, Bool, true, false, List, [], ◌∷◌, length, slice_get, Option, Some, None, refl, sym, ◌∙◌, ap, arith}
use Rattle.std.specs.Prelude.{cond}
use Rattle.std.specs.List.{filter, range_with_len}
use Rattle.std.proofs.lemmas.Bool.{cases_lt}

-- the numbers from f on, so many, that pass a test
abbrev pub passing : (ℕ → Bool) → ℕ → ℕ → List ℕ
passing test f n = filter test (range_with_len f n)

one_more : (f n : ℕ) → f < n → n - f ≡ suc (n - (f + 1))
one_more f n less = omega (arith, less)

-- the first of them passes
pub passing_first : (test : ℕ → Bool) (f n : ℕ) → f < n → test f ≡ true → passing test f (n - f) ≡ f ∷ passing test (f + 1) (n - (f + 1))
passing_first test f n less is = ap (passing test f) (one_more f n less) ∙ ap (λ (b : Bool). cond b (f ∷ passing test (f + 1) (n - (f + 1))) (passing test (f + 1) (n - (f + 1)))) is

-- or it doesn't
pub passing_over : (test : ℕ → Bool) (f n : ℕ) → f < n → test f ≡ false → passing test f (n - f) ≡ passing test (f + 1) (n - (f + 1))
passing_over test f n less is = ap (passing test f) (one_more f n less) ∙ ap (λ (b : Bool). cond b (f ∷ passing test (f + 1) (n - (f + 1))) (passing test (f + 1) (n - (f + 1)))) is

-- behind the last there is none
pub passing_end : (test : ℕ → Bool) (n : ℕ) → passing test n (n - n) ≡ []
passing_end test n = let none : n - n ≡ 0 = omega arith in ap (passing test n) none

-- they are no more than the numbers
pub passing_few : (test : ℕ → Bool) (f n : ℕ) → length (passing test f n) ≤ n
passing_few test f zero = omega arith
passing_few test f (suc n) = by_test (test f) (passing_few test (f + 1) n)
  where
    by_test : (b : Bool) → length (passing test (f + 1) n) ≤ n → length (cond b (f ∷ passing test (f + 1) n) (passing test (f + 1) n)) ≤ suc n
    by_test true more = omega (arith, more)
    by_test false more = omega (arith, more)

-- counted one after another
pub counted_first : (test : ℕ → Bool) (f n count total : ℕ) → f < n → test f ≡ true → count + length (passing test f (n - f)) ≡ total →
    (count + 1) + length (passing test (f + 1) (n - (f + 1))) ≡ total
counted_first test f n count total less is counted =
    let first = ap (λ (l : List ℕ). length l) (passing_first test f n less is) in
    omega (arith, first, counted)

pub counted_over : (test : ℕ → Bool) (f n count total : ℕ) → f < n → test f ≡ false → count + length (passing test f (n - f)) ≡ total →
    count + length (passing test (f + 1) (n - (f + 1))) ≡ total
counted_over test f n count total less is counted =
    let first = ap (λ (l : List ℕ). length l) (passing_over test f n less is) in
    omega (arith, first, counted)

pub counted_all : (test : ℕ → Bool) (f n count total : ℕ) → f ≤ n → n ≤ f → count + length (passing test f (n - f)) ≡ total → count ≡ total
counted_all test f n count total low high counted =
    let same : f ≡ n = omega (arith, low, high) in
    let none = ap (λ (l : List ℕ). length l) (ap (λ k. passing test k (n - k)) same ∙ passing_end test n) in
    omega (arith, none, counted)

-- passed over one after another
pub passed_first : (test : ℕ → Bool) (f n left : ℕ) (found : Option ℕ) → f < n → test f ≡ true → (left ≡ 0 → ⊥) → slice_get (passing test f (n - f)) left ≡ found →
    slice_get (passing test (f + 1) (n - (f + 1))) (left - 1) ≡ found
passed_first test f n zero found less is some at = absurd (some refl)
passed_first test f n (suc left) found less is some at =
    let one : suc left - 1 ≡ left = omega arith in
    ap (slice_get (passing test (f + 1) (n - (f + 1)))) one
    ∙ sym (ap (λ (l : List ℕ). slice_get l (suc left)) (passing_first test f n less is)) ∙ at

pub passed_over : (test : ℕ → Bool) (f n left : ℕ) (found : Option ℕ) → f < n → test f ≡ false → slice_get (passing test f (n - f)) left ≡ found →
    slice_get (passing test (f + 1) (n - (f + 1))) left ≡ found
passed_over test f n left found less is at = sym (ap (λ (l : List ℕ). slice_get l left) (passing_over test f n less is)) ∙ at

pub found_here : (test : ℕ → Bool) (f n left : ℕ) (found : Option ℕ) → f < n → test f ≡ true → left ≡ 0 → slice_get (passing test f (n - f)) left ≡ found → Some f ≡ found
found_here test f n left found less is here at =
    sym (ap (λ (l : List ℕ). slice_get l 0) (passing_first test f n less is)) ∙ ap (slice_get (passing test f (n - f))) (sym here) ∙ at

pub found_none : (test : ℕ → Bool) (f n left : ℕ) (found : Option ℕ) → f ≤ n → n ≤ f → slice_get (passing test f (n - f)) left ≡ found → None ≡ found
found_none test f n left found low high at =
    let same : f ≡ n = omega (arith, low, high) in
    sym (ap (λ (l : List ℕ). slice_get l left) (ap (λ k. passing test k (n - k)) same ∙ passing_end test n)) ∙ at

-- where none before f passes a test, and f doesn't, none before the next one does
pub none_more : (test : ℕ → Bool) (f : ℕ) → ((g : ℕ) → g < f → test g ≡ false) → test f ≡ false → (g : ℕ) → g < f + 1 → test g ≡ false
none_more test f none fails g less = elim (cases_lt g f) [
  | inl before ↦ none g before
  | inr past ↦
      let same : g ≡ f = omega (arith, less, past) in
      ap test same ∙ fails
]
