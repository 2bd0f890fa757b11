-- The cut facts.
use Rattle.std.proofs.Common.{◌≡◌, ◌⊎◌, inl, inr, ℕ, zero, suc, ◌<◌, ◌≤◌, Bool, true, false, List, arith, refl, sym, ◌∙◌, ap, subst, rules}
use Rattle.std.specs.Prelude.{if◌then◌else◌, ◌==◌, ◌||◌, not, nat_lt, ◌&&◌}
use Rattle.std.proofs.lemmas.Bool.{cases_eq, cases_lt, eq-eqb, ne_eqb, lt-ltb, le-ltb, cases_Bool, true≢false, not-true, and_right}
use Rattle.tree_facts.specs.Tree.{parent, IsTree, over, IsChild, Beside, side, below, hop}
use Rattle.tree_facts.specs.Cuts.{Apart, Within, CutFacts}
use Rattle.tree_facts.specs.Cuts.Within.{from_near, to_near, further}
use Rattle.tree_facts.proofs.Paths.{over_up, over_self, over_parent, over_at_most, over_trans, over_child, below_is}

pub side_down : (ps : List ℕ) (x y z : ℕ) → IsChild ps y x → side ps x y z ≡ over ps y z
unfolding side
side_down ps x y z child = ap (λ (b : Bool). if b then over ps y z else not (over ps x z)) (ap (λ b. b && (parent ps y == x)) (lt-ltb 0 y child.not_root) ∙ eq-eqb (parent ps y) x child.parent_is)

not_child : (ps : List ℕ) (x y : ℕ) → IsTree ps → IsChild ps x y → (nat_lt 0 y && (parent ps y == x)) ≡ false
not_child ps x y tree child =
    let low : parent ps x < x = tree.falls x child.not_root in
    let is : parent ps x ≡ y = child.parent_is in
    elim (cases_lt 0 y) [
      | inl some ↦ let less : parent ps y < y = tree.falls y some in
          and_right (nat_lt 0 y) (parent ps y == x) (ne_eqb (parent ps y) x (λ same. absurd (omega arith)))
      | inr none ↦ ap (λ b. b && (parent ps y == x)) (le-ltb 0 y none)
    ]

pub side_up : (ps : List ℕ) (x y z : ℕ) → IsTree ps → IsChild ps x y → side ps x y z ≡ not (over ps x z)
unfolding side
side_up ps x y z tree child = ap (λ (b : Bool). if b then over ps y z else not (over ps x z)) (not_child ps x y tree child)

flip : {ps : List ℕ} {x y : ℕ} → Beside ps x y → Beside ps y x
flip (inl a) = inr a
flip (inr a) = inl a

not_not : (b : Bool) → not (not b) ≡ b
not_not true = refl
not_not false = refl

pub halves : (ps : List ℕ) (x y z : ℕ) → IsTree ps → Beside ps x y → side ps y x z ≡ not (side ps x y z)
halves ps x y z tree (inl down) = side_up ps y x z tree down ∙ ap not (sym (side_down ps x y z down))
halves ps x y z tree (inr up) = side_down ps y x z up ∙ sym (not_not (over ps x z)) ∙ ap not (sym (side_up ps x y z tree up))

-- a child isn't over its parent
child_low : (ps : List ℕ) (x y : ℕ) → IsTree ps → IsChild ps x y → over ps x y ≡ false
child_low ps x y tree child =
    let low : parent ps x < x = tree.falls x child.not_root in
    let is : parent ps x ≡ y = child.parent_is in
    elim (cases_Bool (over ps x y)) [
      | inl holds ↦ let less : x ≤ y = over_at_most ps x y tree holds in absurd (omega arith)
      | inr fails ↦ fails
    ]

pub near : (ps : List ℕ) (x y : ℕ) → IsTree ps → Beside ps x y → side ps x y y ≡ true
near ps x y tree (inl down) = side_down ps x y y down ∙ over_self ps y tree
near ps x y tree (inr up) = side_up ps x y y tree up ∙ ap not (child_low ps x y tree up)

-- a child and its parent are over the same, but for the child itself
step_same : (ps : List ℕ) (i z : ℕ) → IsTree ps → (i ≡ z → ⊥) → over ps i z ≡ over ps i (parent ps z)
step_same ps i z tree apart = over_up ps i z tree ∙ ap (λ b. b || over ps i (parent ps z)) (ne_eqb i z apart)

child_same : (ps : List ℕ) (i low high : ℕ) → IsTree ps → IsChild ps low high → (i ≡ low → ⊥) → over ps i low ≡ over ps i high
child_same ps i low high tree child apart = step_same ps i low tree apart ∙ ap (λ (k : ℕ). over ps i k) child.parent_is

-- the edge of low and high isn't that of c and its parent
child_apart : (ps : List ℕ) (c d low high : ℕ) → IsChild ps c d → IsChild ps low high → (c ≡ low → d ≡ high → ⊥) → c ≡ low → ⊥
child_apart ps c d low high child lower apart same = apart same (sym child.parent_is ∙ ap (λ (k : ℕ). parent ps k) same ∙ lower.parent_is)

pub edge_stays : (ps : List ℕ) (x y u v : ℕ) → IsTree ps → Beside ps x y → Beside ps u v → Apart u v x y → side ps x y u ≡ side ps x y v
edge_stays ps x y u v tree (inl down) (inl low) apart =
    side_down ps x y u down ∙ sym (child_same ps y v u tree low (child_apart ps y x v u down low (λ a b. apart.same_way (sym b) (sym a)))) ∙ sym (side_down ps x y v down)
edge_stays ps x y u v tree (inl down) (inr low) apart =
    side_down ps x y u down ∙ child_same ps y u v tree low (child_apart ps y x u v down low (λ a b. apart.other_way (sym a) (sym b))) ∙ sym (side_down ps x y v down)
edge_stays ps x y u v tree (inr up) (inl low) apart =
    side_up ps x y u tree up ∙ ap not (sym (child_same ps x v u tree low (child_apart ps x y v u up low (λ a b. apart.other_way (sym b) (sym a))))) ∙ sym (side_up ps x y v tree up)
edge_stays ps x y u v tree (inr up) (inr low) apart =
    side_up ps x y u tree up ∙ ap not (child_same ps x u v tree low (child_apart ps x y u v up low (λ a b. apart.same_way (sym a) (sym b)))) ∙ sym (side_up ps x y v tree up)

pub nested : (ps : List ℕ) (x y w z : ℕ) → IsTree ps → Beside ps x y → Beside ps y w → (w ≡ x → ⊥) → side ps y w z ≡ true → side ps x y z ≡ true
-- y below x: w below y, or w is x
nested ps x y w z tree (inl down) (inl low) apart h =
    side_down ps x y z down ∙ over_trans ps y w z tree (over_up ps y w tree ∙ ap (λ b. (y == w) || b) (ap (λ (k : ℕ). over ps y k) low.parent_is ∙ over_self ps y tree) ∙ search (rules, or_true)) (sym (side_down ps y w z low) ∙ h)
  where
    or_true : (b : Bool) → (b || true) ≡ true
    or_true true = refl
    or_true false = refl
nested ps x y w z tree (inl down) (inr high) apart h = absurd (apart (sym high.parent_is ∙ down.parent_is))
-- x below y: w another child of y, or its parent
nested ps x y w z tree (inr up) (inl low) apart h =
    side_up ps x y z tree up ∙ elim (cases_Bool (over ps x z)) [
      | inl holds ↦ absurd (apart (over_child ps w x z tree low.not_root up.not_root (low.parent_is ∙ sym up.parent_is) (sym (side_down ps y w z low) ∙ h) holds))
      | inr fails ↦ ap not fails
    ]
nested ps x y w z tree (inr up) (inr high) apart h =
    side_up ps x y z tree up ∙ elim (cases_Bool (over ps x z)) [
      | inl holds ↦
          let above : over ps y x ≡ true = over_parent ps y x tree (ap (λ (k : ℕ). over ps y k) up.parent_is ∙ over_self ps y tree) in
          let there : over ps y z ≡ true = over_trans ps y x z tree above holds in
          let not_there : over ps y z ≡ false = not-true (over ps y z) (sym (side_up ps y w z tree high) ∙ h) in
          absurd (true≢false (sym there ∙ not_there))
      | inr fails ↦ ap not fails
    ]

pub hop_down : (ps : List ℕ) (z t : ℕ) → over ps z t ≡ true → below ps t z t ≡ hop ps z t
unfolding hop
hop_down ps z t h = sym (ap (λ (b : Bool). if b then below ps t z t else parent ps z) h)

pub hop_up : (ps : List ℕ) (z t : ℕ) → over ps z t ≡ false → parent ps z ≡ hop ps z t
unfolding hop
hop_up ps z t h = sym (ap (λ (b : Bool). if b then below ps t z t else parent ps z) h)

pub all_over : (ps : List ℕ) (n t : ℕ) → IsTree ps → t ≤ n → over ps 0 t ≡ true
all_over ps zero t tree low = let none : t ≡ 0 = omega arith in ap (λ (k : ℕ). over ps 0 k) none ∙ over_self ps 0 tree
all_over ps (suc n) t tree low = elim (cases_lt 0 t) [
  | inl some ↦ let less : parent ps t < t = tree.falls t some in over_parent ps 0 t tree (all_over ps n (parent ps t) tree (omega arith))
  | inr none ↦ all_over ps n t tree (omega arith)
]

pub hop_is : (ps : List ℕ) (z t : ℕ) → IsTree ps → (z ≡ t → ⊥) → Beside ps z (hop ps z t) × (side ps z (hop ps z t) t ≡ true)
hop_is ps z t tree apart = elim (cases_Bool (over ps z t)) [
  | inl holds ↦
      let found : IsChild ps (below ps t z t) z × (over ps (below ps t z t) t ≡ true) = below_is ps z t tree holds apart in
      let there : Beside ps z (below ps t z t) × (side ps z (below ps t z t) t ≡ true) = (inl found.0, side_down ps z (below ps t z t) t found.0 ∙ found.1) in
      subst (λ (k : ℕ). Beside ps z k × (side ps z k t ≡ true)) (hop_down ps z t holds) there
  | inr fails ↦
      let some : 0 < z = elim (cases_lt 0 z) [
        | inl more ↦ more
        | inr none ↦ absurd (true≢false (sym (all_over ps t t tree (omega arith)) ∙ ap (λ (k : ℕ). over ps k t) (let e : 0 ≡ z = omega arith in e) ∙ fails))
      ] in
      let is : IsChild ps z (parent ps z) = record { not_root = some; parent_is = refl } in
      let there : Beside ps z (parent ps z) × (side ps z (parent ps z) t ≡ true) = (inr is, side_up ps z (parent ps z) t tree is ∙ ap not fails) in
      subst (λ (k : ℕ). Beside ps z k × (side ps z k t ≡ true)) (hop_up ps z t fails) there
]

-- the way back isn't a way there
pub back : (ps : List ℕ) (x y : ℕ) → IsTree ps → Beside ps x y → side ps x y x ≡ false
back ps x y tree beside = not-true (side ps x y x) (sym (halves ps x y x tree beside) ∙ near ps y x tree (flip beside))

pub hop_only : (ps : List ℕ) (z t w : ℕ) → IsTree ps → Beside ps z w → side ps z w t ≡ true → w ≡ hop ps z t
hop_only ps z t w tree beside h =
    let apart : z ≡ t → ⊥ = λ same. true≢false (sym h ∙ ap (λ (k : ℕ). side ps z w k) (sym same) ∙ back ps z w tree beside) in
    let is : Beside ps z (hop ps z t) × (side ps z (hop ps z t) t ≡ true) = hop_is ps z t tree apart in
    elim (cases_eq w (hop ps z t)) [
      | inl same ↦ same
      | inr other ↦
          let there : side ps w z t ≡ true = nested ps w z (hop ps z t) t tree (flip beside) is.0 (λ e. other (sym e)) is.1 in
          absurd (true≢false (sym there ∙ halves ps z w t tree beside ∙ ap not h))
    ]

pub onward : (ps : List ℕ) (x y z : ℕ) → IsTree ps → Beside ps x y → side ps x y z ≡ true → (z ≡ y) ⊎ (Beside ps y (hop ps y z) × (side ps y (hop ps y z) z ≡ true) × (hop ps y z ≡ x → ⊥))
onward ps x y z tree beside h = elim (cases_eq z y) [
  | inl same ↦ inl same
  | inr other ↦
      let is : Beside ps y (hop ps y z) × (side ps y (hop ps y z) z ≡ true) = hop_is ps y z tree (λ e. other (sym e)) in
      inr (is.0, is.1, λ same. true≢false (sym is.1 ∙ ap (λ (k : ℕ). side ps y k z) same ∙ halves ps x y z tree beside ∙ ap not h))
]

pub edges_within : (ps : List ℕ) (x y u v : ℕ) → IsTree ps → Beside ps x y → Beside ps u v → side ps x y u ≡ true → side ps x y v ≡ true → Within ps x y u v
edges_within ps x y u v tree beside edge here there =
    let not_x : (k : ℕ) → side ps x y k ≡ true → k ≡ x → ⊥ = λ k h same. true≢false (sym h ∙ ap (λ (i : ℕ). side ps x y i) same ∙ back ps x y tree beside) in
    elim (onward ps x y u tree beside here) [
      | inl is ↦ from_near is (not_x v there)
      | inr way ↦ elim (cases_eq v y) [
        | inl is ↦ to_near is (not_x u here)
        | inr other ↦ further (hop ps y u) way.0 way.2 way.1 (sym (edge_stays ps y (hop ps y u) u v tree way.0 edge (record {
          same_way = λ a b. true≢false (sym way.1 ∙ ap (λ (i : ℕ). side ps y (hop ps y u) i) a ∙ back ps y (hop ps y u) tree way.0);
          other_way = λ a b. other b;
        })) ∙ way.1)
      ]
    ]

pub cut_facts : CutFacts
cut_facts = record { near = near; halves = halves; edge_stays = edge_stays; nested = nested; hop_is = hop_is; hop_only = hop_only; onward = onward; edges_within = edges_within }
