-- Pairs of federates that wait for each other.
use Rattle.std.proofs.Common.{◌≡◌, inl, inr, ℕ, zero, suc, ◌<◌, ◌≤◌, Bool, true, List, [], ◌∷◌, length, get_or, drop, arith, refl, sym, ◌∙◌, ap, subst, eq-eqb}
use Rattle.std.specs.Prelude.{nat_eq}
use Rattle.std.specs.List.{list_any}
use Rattle.std.specs.List.Sorted.{IsStrictlyIncreasing}
use Rattle.std.proofs.lemmas.Bool.{eqb-true, cases_lt}
use Rattle.std.proofs.lemmas.List.Kept.{AllPairs-from_increasing}
use Rattle.hel_lists.specs.Members.{IsIn}
use Rattle.federation_plan.specs.Plan.{Federation}
use Rattle.federation_plan.specs.Waiting.{IsWaitPair}
use Rattle.federation_plan.proofs.Lists.{any_from, any_to}

-- the ancestors from place i on hold all with whom a makes a pair
pub record AreLeft (p : Federation) (a i : ℕ) (row : List ℕ) : Type 0 where
  pub left : (d : ℕ) → IsWaitPair p a d → IsIn d (drop i row)

-- the place of what stands from place i on
place_in : (row : List ℕ) (i d : ℕ) → IsIn d (drop i row) → (k : ℕ) × (i ≤ k) × (k < length row) × (d ≡ get_or row k 0)
place_in [] zero d among = absurd among
place_in [] (suc i) d among = absurd among
place_in (x ∷ xs) zero d among = elim among [
  | inl here ↦ (0, omega arith, omega arith, here)
  | inr later ↦ let rest = place_in xs 0 d later in (suc rest.0, omega arith, (let below : rest.0 < length xs = rest.2 in omega (arith, below)), rest.3)
]
place_in (x ∷ xs) (suc i) d among =
    let rest = place_in xs i d among in
    let low : i ≤ rest.0 = rest.1 in
    let below : rest.0 < length xs = rest.2 in
    (suc rest.0, omega (arith, low), omega (arith, below), rest.3)

-- what stands further on in a rising list is greater
greater : (row : List ℕ) (i d : ℕ) → IsStrictlyIncreasing row → i < length row → IsIn d (drop i row) → get_or row i 0 ≤ d
greater row i d rises below among =
    let at = place_in row i d among in
    elim (cases_lt i at.0) [
      | inl later ↦
          let higher : get_or row i 0 < get_or row at.0 0 = AllPairs-from_increasing row rises i at.0 0 later at.2 in
          let is : d ≡ get_or row at.0 0 = at.3 in
          omega (arith, higher, is)
      | inr here ↦
          let lower : i ≤ at.0 = at.1 in
          let same : at.0 ≡ i = omega (arith, lower, here) in
          let is : d ≡ get_or row i 0 = at.3 ∙ ap (λ (k : ℕ). get_or row k 0) same in
          omega (arith, is)
    ]

pub left_least : (p : Federation) (a i : ℕ) (row : List ℕ) → IsStrictlyIncreasing row → i < length row → AreLeft p a i row → (d : ℕ) → IsWaitPair p a d → get_or row i 0 ≤ d
left_least p a i row rises below were d pair = greater row i d rises below (were.left d pair)

-- none before a makes a pair
pub record AreDone (p : Federation) (a : ℕ) : Type 0 where
  pub done : (c d : ℕ) → IsWaitPair p c d → a ≤ c

-- a member by a test
pub contains_is : (row all : List ℕ) (a : ℕ) (b : Bool) → row ≡ all → b ≡ list_any (λ y. nat_eq y a) row → (b ≡ true → IsIn a all) × (IsIn a all → b ≡ true)
contains_is row all a b same is = (
  λ holds.
      let one = any_from (λ y. nat_eq y a) row (sym is ∙ holds) in
      subst (λ (l : List ℕ). IsIn a l) same (subst (λ (x : ℕ). IsIn x row) (eqb-true one.0 a one.2) one.1),
  λ among. is ∙ any_to (λ y. nat_eq y a) row a (subst (λ (l : List ℕ). IsIn a l) (sym same) among) (eq-eqb a a refl),
)
