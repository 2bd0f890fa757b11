-- The nodes of a plan form a tree.
use Rattle.std.proofs.Common.{◌≡◌, ◌≢◌, inl, inr, ℕ, zero, suc, ◌<◌, ◌≤◌, List, [], ◌∷◌, length, arith, refl, sym, ◌∙◌, ap}
use Rattle.std.proofs.lemmas.Bool.{cases_Bool, cases_lt}
use Rattle.std.proofs.lemmas.List.{get_or_past, length-map}
use Rattle.tree_facts.specs.Tree.{IsTree, parent, over, below, hop}
use Rattle.tree_facts.proofs.Paths.{below_is, over_at_most}
use Rattle.tree_facts.proofs.Cuts.{hop_down, hop_up}
use Rattle.federation_plan.specs.declared.tree.NodeKind.{NodeKind}
use Rattle.federation_plan.specs.declared.tree.NodeKind.TheVariants.{Root, Broker, Core}
use Rattle.federation_plan.specs.declared.tree.NodeRow.{NodeRow}
use Rattle.federation_plan.specs.Tree.{IsPlaced, above, blank_node, kind_at, node_at, parents_of}

parent_at : (nodes : List NodeRow) (z : ℕ) → z < length nodes → parent (parents_of nodes) z ≡ above (node_at nodes z)
parent_at [] z within = absurd (omega arith)
parent_at (row ∷ rows) zero within = refl
parent_at (row ∷ rows) (suc z) within = parent_at rows z (omega arith)

above_other : (name : List ℕ) (up : ℕ) (kind : NodeKind) → kind ≢ Root → above (record { name = name; parent = up; kind = kind }) ≡ up
above_other name up Root other = absurd (other refl)
above_other name up Broker other = refl
above_other name up Core other = refl

above_root : (name : List ℕ) (up : ℕ) (kind : NodeKind) → kind ≡ Root → above (record { name = name; parent = up; kind = kind }) ≡ 0
above_root name up kind is = ap (λ (k : NodeKind). above (record { name = name; parent = up; kind = k })) is

pub tree_is : (nodes : List NodeRow) → 0 < length nodes → ((z : ℕ) → z < length nodes → IsPlaced nodes z) → IsTree (parents_of nodes)
tree_is nodes some placed = record {
  root = parent_at nodes 0 some ∙ above_root (node_at nodes 0).name (node_at nodes 0).parent (kind_at nodes 0) ((placed 0 some).root refl);
  falls = λ z lower. elim (cases_lt z (length nodes)) [
    | inl within ↦
        let is : parent (parents_of nodes) z ≡ (node_at nodes z).parent = parent_at nodes z within ∙ above_other (node_at nodes z).name (node_at nodes z).parent (kind_at nodes z) ((placed z within).other lower) in
        let falls : (node_at nodes z).parent < z = (placed z within).falls lower in
        omega (arith, is, falls)
    | inr past ↦
        let many : length (parents_of nodes) ≡ length nodes = length-map nodes above in
        let none : parent (parents_of nodes) z ≡ 0 = get_or_past (parents_of nodes) z 0 (omega (arith, many, past)) in
        omega (arith, none, lower)
  ];
}

-- a core is a node
pub core_known : (nodes : List NodeRow) (c : ℕ) → kind_at nodes c ≡ Core → c < length nodes
core_known nodes c is = elim (cases_lt c (length nodes)) [
  | inl within ↦ within
  | inr past ↦ let none : Root ≡ kind_at nodes c = sym (ap (λ (row : NodeRow). row.kind) (get_or_past nodes c blank_node past)) in let both : Root ≡ Core = none ∙ is in absurd (cc)
]

-- no hop leads out of the nodes
pub hop_within : (ps : List ℕ) (z t count : ℕ) → IsTree ps → z < count → t < count → (z ≡ t → ⊥) → hop ps z t < count
hop_within ps z t count tree low high apart = elim (cases_Bool (over ps z t)) [
  | inl down ↦
      let at : below ps t z t ≡ hop ps z t = hop_down ps z t down in
      let most : below ps t z t ≤ t = over_at_most ps (below ps t z t) t tree (below_is ps z t tree down apart).1 in
      omega (arith, at, most)
  | inr up ↦
      let at : parent ps z ≡ hop ps z t = hop_up ps z t up in
      let most : parent ps z ≤ z = parent_most z in
      omega (arith, at, most)
]
  where
    parent_most : (y : ℕ) → parent ps y ≤ y
    parent_most zero = let root : parent ps 0 ≡ 0 = tree.root in omega (arith, root)
    parent_most (suc y) = let falls : parent ps (suc y) < suc y = tree.falls (suc y) (omega arith) in omega (arith, falls)
