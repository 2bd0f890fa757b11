-- Paths upward.
use Rattle.std.proofs.Common.{◌≡◌, ◌⊎◌, inl, inr, ℕ, zero, suc, ◌<◌, ◌≤◌, Bool, true, false, List, arith, refl, sym, ◌∙◌, ap, subst}
use Rattle.std.specs.Prelude.{if◌then◌else◌, ◌==◌, ◌||◌}
use Rattle.std.proofs.lemmas.Bool.{cases_lt, eqb-true, eqb-false, eq-eqb, or_cases, or_right, cases_Bool}
use Rattle.tree_facts.specs.Tree.{parent, IsTree, climbs, over, IsChild, below}

climbs_root : (ps : List ℕ) (n i : ℕ) → IsTree ps → climbs ps n i 0 ≡ (i == 0)
unfolding climbs
climbs_root ps zero i tree = refl
climbs_root ps (suc n) i tree = elim (cases_Bool (i == 0)) [
  | inl holds ↦ ap (λ b. b || climbs ps n i (parent ps 0)) holds ∙ sym holds
  | inr fails ↦ ap (λ b. b || climbs ps n i (parent ps 0)) fails ∙ ap (λ (z : ℕ). climbs ps n i z) tree.root ∙ climbs_root ps n i tree
]

-- how often one climbs doesn't matter, once it is enough
climbs_enough : (ps : List ℕ) (n m i z : ℕ) → IsTree ps → z ≤ n → z ≤ m → climbs ps n i z ≡ climbs ps m i z
unfolding climbs
climbs_enough ps zero m i z tree low high =
    let none : z ≡ 0 = omega arith in
    ap (λ (k : ℕ). climbs ps zero i k) none ∙ sym (climbs_root ps m i tree) ∙ ap (λ (k : ℕ). climbs ps m i k) (sym none)
climbs_enough ps (suc n) zero i z tree low high =
    let none : z ≡ 0 = omega arith in
    ap (λ (k : ℕ). climbs ps (suc n) i k) none ∙ climbs_root ps (suc n) i tree ∙ ap (λ (k : ℕ). climbs ps zero i k) (sym none)
climbs_enough ps (suc n) (suc m) i z tree low high = elim (cases_lt 0 z) [
  | inl some ↦
      let less : parent ps z < z = tree.falls z some in
      ap (λ b. (i == z) || b) (climbs_enough ps n m i (parent ps z) tree (omega arith) (omega arith))
  | inr none' ↦
      let none : z ≡ 0 = omega arith in
      ap (λ (k : ℕ). climbs ps (suc n) i k) none ∙ climbs_root ps (suc n) i tree ∙ sym (climbs_root ps (suc m) i tree) ∙ ap (λ (k : ℕ). climbs ps (suc m) i k) (sym none)
]

pub over_root : (ps : List ℕ) (i : ℕ) → IsTree ps → over ps i 0 ≡ (i == 0)
unfolding over
over_root ps i tree = climbs_root ps 0 i tree

pub over_up : (ps : List ℕ) (i z : ℕ) → IsTree ps → over ps i z ≡ ((i == z) || over ps i (parent ps z))
unfolding over climbs
over_up ps i zero tree = climbs_root ps 0 i tree ∙ elim (cases_Bool (i == 0)) [
  | inl holds ↦ holds ∙ sym (ap (λ b. b || climbs ps (parent ps 0) i (parent ps 0)) holds)
  | inr fails ↦ sym (ap (λ b. b || climbs ps (parent ps 0) i (parent ps 0)) fails ∙ ap (λ (z : ℕ). climbs ps z i z) tree.root)
]
over_up ps i (suc z) tree =
    let less : parent ps (suc z) < suc z = tree.falls (suc z) (omega arith) in
    ap (λ b. (i == suc z) || b) (climbs_enough ps z (parent ps (suc z)) i (parent ps (suc z)) tree (omega arith) (omega arith))

pub over_self : (ps : List ℕ) (z : ℕ) → IsTree ps → over ps z z ≡ true
over_self ps z tree = over_up ps z z tree ∙ ap (λ b. b || over ps z (parent ps z)) (eq-eqb z z refl)

pub over_parent : (ps : List ℕ) (i z : ℕ) → IsTree ps → over ps i (parent ps z) ≡ true → over ps i z ≡ true
over_parent ps i z tree h = over_up ps i z tree ∙ or_right (i == z) (over ps i (parent ps z)) h

-- on the path, it is the place itself or above it
pub over_cases : (ps : List ℕ) (i z : ℕ) → IsTree ps → over ps i z ≡ true → (i ≡ z) ⊎ (over ps i (parent ps z) ≡ true)
over_cases ps i z tree h = elim (or_cases (i == z) (over ps i (parent ps z)) (sym (over_up ps i z tree) ∙ h)) [
  | inl same ↦ inl (eqb-true i z same)
  | inr more ↦ inr more
]

-- by induction on a bound of z
over_low : (ps : List ℕ) (n i z : ℕ) → IsTree ps → z ≤ n → over ps i z ≡ true → i ≤ z
over_low ps zero i z tree low h =
    let none : z ≡ 0 = omega arith in
    let is : i ≡ 0 = eqb-true i 0 (sym (over_root ps i tree) ∙ ap (λ (k : ℕ). over ps i k) (sym none) ∙ h) in omega arith
over_low ps (suc n) i z tree low h = elim (cases_lt 0 z) [
  | inr none' ↦ over_low ps n i z tree (omega arith) h
  | inl some ↦
      let less : parent ps z < z = tree.falls z some in
      elim (over_cases ps i z tree h) [
        | inl same ↦ omega arith
        | inr more ↦ let rest : i ≤ parent ps z = over_low ps n i (parent ps z) tree (omega arith) more in omega arith
      ]
]

pub over_at_most : (ps : List ℕ) (i z : ℕ) → IsTree ps → over ps i z ≡ true → i ≤ z
over_at_most ps i z tree h = over_low ps z i z tree (omega arith) h

over_trans_low : (ps : List ℕ) (n i j z : ℕ) → IsTree ps → z ≤ n → over ps i j ≡ true → over ps j z ≡ true → over ps i z ≡ true
over_trans_low ps zero i j z tree low h k =
    let less : j ≤ z = over_at_most ps j z tree k in
    let same : j ≡ z = omega arith in
    ap (λ (t : ℕ). over ps i t) (sym same) ∙ h
over_trans_low ps (suc n) i j z tree low h k = elim (cases_lt 0 z) [
  | inr none' ↦ over_trans_low ps n i j z tree (omega arith) h k
  | inl some ↦
      let less : parent ps z < z = tree.falls z some in
      elim (over_cases ps j z tree k) [
        | inl same ↦ ap (λ (t : ℕ). over ps i t) (sym same) ∙ h
        | inr more ↦ over_parent ps i z tree (over_trans_low ps n i j (parent ps z) tree (omega arith) h more)
      ]
]

pub over_trans : (ps : List ℕ) (i j z : ℕ) → IsTree ps → over ps i j ≡ true → over ps j z ≡ true → over ps i z ≡ true
over_trans ps i j z tree h k = over_trans_low ps z i j z tree (omega arith) h k

-- of two on one path, one stands over the other
over_linear_low : (ps : List ℕ) (n i j z : ℕ) → IsTree ps → z ≤ n → over ps i z ≡ true → over ps j z ≡ true → (over ps i j ≡ true) ⊎ (over ps j i ≡ true)
over_linear_low ps zero i j z tree low h k =
    let less : i ≤ z = over_at_most ps i z tree h in
    let same : i ≡ z = omega arith in
    inr (ap (λ (t : ℕ). over ps j t) same ∙ k)
over_linear_low ps (suc n) i j z tree low h k = elim (cases_lt 0 z) [
  | inr none' ↦ over_linear_low ps n i j z tree (omega arith) h k
  | inl some ↦
      let less : parent ps z < z = tree.falls z some in
      elim (over_cases ps i z tree h) [
        | inl same ↦ inr (ap (λ (t : ℕ). over ps j t) same ∙ k)
        | inr more ↦ elim (over_cases ps j z tree k) [
          | inl same ↦ inl (ap (λ (t : ℕ). over ps i t) same ∙ h)
          | inr also ↦ over_linear_low ps n i j (parent ps z) tree (omega arith) more also
        ]
      ]
]

-- a path has at most one child of each node
pub over_child : (ps : List ℕ) (i j z : ℕ) → IsTree ps → 0 < i → 0 < j → parent ps i ≡ parent ps j → over ps i z ≡ true → over ps j z ≡ true → i ≡ j
over_child ps i j z tree some more same h k =
    let less : parent ps i < i = tree.falls i some in
    let less' : parent ps j < j = tree.falls j more in
    elim (over_linear_low ps z i j z tree (omega arith) h k) [
      | inl here ↦ elim (over_cases ps i j tree here) [
        | inl is ↦ is
        | inr up ↦ let low : i ≤ parent ps j = over_at_most ps i (parent ps j) tree up in omega arith
      ]
      | inr here ↦ elim (over_cases ps j i tree here) [
        | inl is ↦ sym is
        | inr up ↦ let low : j ≤ parent ps i = over_at_most ps j (parent ps i) tree up in omega arith
      ]
    ]

-- below z on the path of t stands a child of z
below_here : (ps : List ℕ) (n z t : ℕ) → (parent ps t == z) ≡ true → t ≡ below ps (suc n) z t
unfolding below
below_here ps n z t here = sym (ap (λ (b : Bool). if b then t else below ps n z (parent ps t)) here)

below_on : (ps : List ℕ) (n z t : ℕ) → (parent ps t == z) ≡ false → below ps n z (parent ps t) ≡ below ps (suc n) z t
unfolding below
below_on ps n z t here = sym (ap (λ (b : Bool). if b then t else below ps n z (parent ps t)) here)

below_low : (ps : List ℕ) (n z t : ℕ) → IsTree ps → t ≤ n → over ps z t ≡ true → (z ≡ t → ⊥) → IsChild ps (below ps n z t) z × (over ps (below ps n z t) t ≡ true)
unfolding below
below_low ps zero z t tree low h apart =
    let less : z ≤ t = over_at_most ps z t tree h in absurd (apart (omega arith))
below_low ps (suc n) z t tree low h apart =
    let less : z ≤ t = over_at_most ps z t tree h in
    let some : 0 < t = elim (cases_lt 0 t) [ inl holds ↦ holds | inr none ↦ absurd (apart (omega arith)) ] in
    let falls : parent ps t < t = tree.falls t some in
    elim (cases_Bool (parent ps t == z)) [
      | inl here ↦
          let is : IsChild ps t z = record { not_root = some; parent_is = eqb-true (parent ps t) z here } in
          subst (λ (k : ℕ). IsChild ps k z × (over ps k t ≡ true)) (below_here ps n z t here) (is, over_self ps t tree)
      | inr not_here ↦
          let up : over ps z (parent ps t) ≡ true = elim (over_cases ps z t tree h) [ inl same ↦ absurd (apart same) | inr more ↦ more ] in
          let rest : IsChild ps (below ps n z (parent ps t)) z × (over ps (below ps n z (parent ps t)) (parent ps t) ≡ true)
          = below_low ps n z (parent ps t) tree (omega arith) up (λ same. eqb-false (parent ps t) z not_here (sym same)) in
          subst (λ (k : ℕ). IsChild ps k z × (over ps k t ≡ true)) (below_on ps n z t not_here) (rest.0, over_parent ps (below ps n z (parent ps t)) t tree rest.1)
    ]

pub below_is : (ps : List ℕ) (z t : ℕ) → IsTree ps → over ps z t ≡ true → (z ≡ t → ⊥) → IsChild ps (below ps t z t) z × (over ps (below ps t z t) t ≡ true)
below_is ps z t tree h apart = below_low ps t z t tree (omega arith) h apart
