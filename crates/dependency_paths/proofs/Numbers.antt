-- The numbers that a row holds, but for one, up to a place.
use Rattle.std.proofs.Common.{◌≡◌, ◌≢◌, inl, inr, ℕ, ◌+◌, ◌<◌, Bool, true, false, List, [], ◌∷◌, ◌++◌, get_or, arith, sym, ◌∙◌, subst}
use Rattle.std.specs.List.Sorted.{IsStrictlyIncreasing}
use Rattle.std.proofs.lemmas.Bool.{cases_eq, true≢false}
use Rattle.hel_lists.specs.Members.{IsIn}
use Rattle.hel_lists.proofs.Members.{in_pushed, pushed_in, rises_pushed}

pub record AreNumbers (row : List Bool) (but n : ℕ) (numbers : List ℕ) : Type 0 where
  pub rises : IsStrictlyIncreasing numbers
  pub sound : (a : ℕ) → IsIn a numbers → (a < n) × (a ≢ but) × (get_or row a false ≡ true)
  pub whole : (a : ℕ) → a < n → a ≢ but → get_or row a false ≡ true → IsIn a numbers

pub no_numbers : (row : List Bool) (but : ℕ) → AreNumbers row but 0 []
no_numbers row but = record {
  rises = λ k below. absurd (omega arith);
  sound = λ a among. absurd among;
  whole = λ a below apart holds. absurd (omega arith);
}

pub one_more : (row : List Bool) (but n : ℕ) (numbers : List ℕ) → AreNumbers row but n numbers → get_or row n false ≡ true → n ≢ but →
    AreNumbers row but (n + 1) (numbers ++ n ∷ [])
one_more row but n numbers were holds apart = record {
  rises = rises_pushed numbers n were.rises (λ x among. (were.sound x among).0);
  sound = λ a among. elim (in_pushed numbers n a among) [
    | inl within ↦ let is = were.sound a within in (omega arith, is.1, is.2)
    | inr last ↦ (omega arith, subst (λ (k : ℕ). k ≢ but) (sym last) apart, subst (λ (k : ℕ). get_or row k false ≡ true) (sym last) holds)
  ];
  whole = λ a below other is. pushed_in numbers n a (elim (cases_eq a n) [
    | inl last ↦ inr last
    | inr before ↦ inl (were.whole a (omega arith) other is)
  ]);
}

pub none_more : (row : List Bool) (but n : ℕ) (numbers : List ℕ) → AreNumbers row but n numbers → ((n ≢ but) → get_or row n false ≡ false) →
    AreNumbers row but (n + 1) numbers
none_more row but n numbers were fails = record {
  rises = were.rises;
  sound = λ a among. let is = were.sound a among in (omega arith, is.1, is.2);
  whole = λ a below other is. elim (cases_eq a n) [
    | inl last ↦ absurd (true≢false (sym is ∙ subst (λ (k : ℕ). get_or row k false ≡ false) (sym last) (fails (subst (λ (k : ℕ). k ≢ but) last other))))
    | inr before ↦ were.whole a (omega arith) other is
  ];
}
