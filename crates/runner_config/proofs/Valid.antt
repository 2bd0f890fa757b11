-- The nodes of a tree without a cause, with the cores of the entries, are a valid tree.
use Rattle.std.proofs.Common.{◌≡◌, ◌≢◌, ◌∙◌, inl, inr, ℕ, zero, suc, ◌+◌, ◌-◌, ◌<◌, ◌≤◌, arith, Bool, true, false, ◌&&◌, cond, not, List, [], ◌∷◌, length, map, length-append, Option, Some, None, is_some, ap, sym, subst, refl, nat_lt}
use Rattle.std.specs.Prelude.{unwrap_or, option_and_then, nat_le}
use Rattle.std.specs.Bool.{then_some}
use Rattle.std.specs.List.{position_or_len}
use Rattle.std.specs.Str.{bytes_eq}
use Rattle.runner_config.specs.declared.refusal.TreeCause.TheVariants.{NameTwice, UnknownParent, UnknownCore, TooManyNodes}
use Rattle.std.proofs.lemmas.Bool.{cases_lt}
use Rattle.std.proofs.lemmas.Bool.Decides.{nat_tests}
use Rattle.std.proofs.lemmas.List.{get_or-append_right, get_or_append_left}
use Rattle.hel_lists.specs.Members.{IsIn}
use Rattle.federation_plan.specs.declared.tree.NodeKind.{NodeKind}
use Rattle.federation_plan.specs.declared.tree.NodeKind.TheVariants.{Root, Broker, Core}
use Rattle.federation_plan.specs.declared.tree.NodeRow.{NodeRow}
use Rattle.federation_plan.specs.Tree.{most_nodes, blank_node, node_at, kind_at, IsPlaced, IsValid}
use Rattle.runner_config.specs.declared.entries.Listed.{Listed}
use Rattle.runner_config.specs.declared.reading.Entry.{Entry}
use Rattle.runner_config.specs.declared.shape.NodeText.{NodeText}
use Rattle.runner_config.specs.declared.shape.TreeText.{TreeText}
use Rattle.runner_config.specs.Names.{place_of, are_different}
use Rattle.runner_config.specs.Nodes.{names_of, parent_of, are_known, core_of, has_parents, has_cores, cause_of, rows_from, root_row, nodes_of}
use Rattle.runner_config.specs.Runner.{is_broker_listed, federates_of, entry_in, runner_with, tree_with}
use Rattle.runner_config.proofs.Rows.{rows_length, names_length}

-- ---- the rows of one kind

record IsRow (brokers : ℕ) (kind : NodeKind) (number : ℕ) (row : NodeRow) : Type 0 where
  is : row.kind ≡ kind
  falls : row.parent < number
  broker : row.parent ≤ brokers

abbrev as_parent : ℕ → ℕ → Option ℕ → Option ℕ
as_parent brokers number found = option_and_then (λ place. then_some (nat_lt place number && nat_le place brokers) place) found

parent_bounds : (brokers number : ℕ) (found : Option ℕ) → is_some (as_parent brokers number found) ≡ true
    → (unwrap_or (as_parent brokers number found) 0 < number) × (unwrap_or (as_parent brokers number found) 0 ≤ brokers)
parent_bounds brokers number None h = cc
parent_bounds brokers number (Some place) h = grind (arith, nat_tests)

both : (a b : Bool) → (a && b) ≡ true → (a ≡ true) × (b ≡ true)
both true b h = (refl, h)
both false b h = cc

rows_are : (names : List (List ℕ)) (brokers : ℕ) (kind : NodeKind) (number : ℕ) (nodes : List NodeText) → are_known names brokers number nodes ≡ true
    → (k : ℕ) → k < length nodes → IsRow brokers kind (number + k) (node_at (rows_from names brokers kind number nodes) k)
rows_are names brokers kind number [] known k lt = absurd (omega arith)
rows_are names brokers kind number (node ∷ nodes) known zero lt =
    let parts = both (is_some (parent_of names brokers number node.parent)) (are_known names brokers (number + 1) nodes) known in
    let bounds = parent_bounds brokers number (place_of names node.parent) parts.0 in
    record { is = refl; falls = omega (arith, bounds.0); broker = bounds.1 }
rows_are names brokers kind number (node ∷ nodes) known (suc k) lt =
    let parts = both (is_some (parent_of names brokers number node.parent)) (are_known names brokers (number + 1) nodes) known in
    let same : number + 1 + k ≡ number + suc k = omega arith in
    subst (λ (n : ℕ). IsRow brokers kind n (node_at (rows_from names brokers kind (number + 1) nodes) k)) same
    (rows_are names brokers kind (number + 1) nodes parts.1 k (omega arith))

-- ---- all rows

brokers_of : TreeText → List NodeRow
brokers_of t = rows_from (names_of t) (length t.brokers) Broker 1 t.brokers

cores_of : TreeText → List NodeRow
cores_of t = rows_from (names_of t) (length t.brokers) Core (1 + length t.brokers) t.cores

record Known (t : TreeText) : Type 0 where
  brokers : are_known (names_of t) (length t.brokers) 1 t.brokers ≡ true
  cores : are_known (names_of t) (length t.brokers) (1 + length t.brokers) t.cores ≡ true

root_at : (t : TreeText) → node_at (nodes_of t) 0 ≡ root_row
unfolding nodes_of
root_at t = refl

broker_at : (t : TreeText) → Known t → (k : ℕ) → k < length t.brokers → IsRow (length t.brokers) Broker (suc k) (node_at (nodes_of t) (suc k))
unfolding nodes_of brokers_of cores_of
broker_at t known k lt =
    let few : k < length (brokers_of t) = omega (arith, rows_length (names_of t) (length t.brokers) Broker 1 t.brokers) in
    let here : node_at (nodes_of t) (suc k) ≡ node_at (brokers_of t) k = get_or_append_left (brokers_of t) (cores_of t) blank_node k few in
    let number : 1 + k ≡ suc k = omega arith in
    let row : IsRow (length t.brokers) Broker (suc k) (node_at (brokers_of t) k) =
    subst (λ (n : ℕ). IsRow (length t.brokers) Broker n (node_at (brokers_of t) k)) number (rows_are (names_of t) (length t.brokers) Broker 1 t.brokers known.brokers k lt) in
    subst (IsRow (length t.brokers) Broker (suc k)) (sym here) row

core_at : (t : TreeText) → Known t → (k : ℕ) → length t.brokers ≤ k → k < length t.brokers + length t.cores → IsRow (length t.brokers) Core (suc k) (node_at (nodes_of t) (suc k))
unfolding nodes_of brokers_of cores_of
core_at t known k past lt =
    let many : length (brokers_of t) ≡ length t.brokers = rows_length (names_of t) (length t.brokers) Broker 1 t.brokers in
    let here : node_at (nodes_of t) (suc k) ≡ node_at (cores_of t) (k - length t.brokers) =
    get_or-append_right (brokers_of t) (cores_of t) (length t.brokers) k blank_node many past in
    let number : 1 + length t.brokers + (k - length t.brokers) ≡ suc k = omega arith in
    let row : IsRow (length t.brokers) Core (suc k) (node_at (cores_of t) (k - length t.brokers)) =
    subst (λ (n : ℕ). IsRow (length t.brokers) Core n (node_at (cores_of t) (k - length t.brokers))) number
    (rows_are (names_of t) (length t.brokers) Core (1 + length t.brokers) t.cores known.cores (k - length t.brokers) (omega arith)) in
    subst (IsRow (length t.brokers) Core (suc k)) (sym here) row

nodes_length : (t : TreeText) → length (nodes_of t) ≡ 1 + (length t.brokers + length t.cores)
unfolding nodes_of
nodes_length t =
    omega (
      arith,
      length-append (rows_from (names_of t) (length t.brokers) Broker 1 t.brokers) (rows_from (names_of t) (length t.brokers) Core (1 + length t.brokers) t.cores),
      rows_length (names_of t) (length t.brokers) Broker 1 t.brokers,
      rows_length (names_of t) (length t.brokers) Core (1 + length t.brokers) t.cores,
    )

-- the root and the brokers aren't cores
no_core : (t : TreeText) → Known t → (z : ℕ) → z ≤ length t.brokers → kind_at (nodes_of t) z ≢ Core
no_core t known zero le e = let here = ap (λ (row : NodeRow). row.kind) (root_at t) in cc
no_core t known (suc k) le e = let row = broker_at t known k (omega arith) in let is = row.is in cc

from_row : (t : TreeText) → Known t → (kind : NodeKind) → kind ≢ Root → (k : ℕ) → IsRow (length t.brokers) kind (suc k) (node_at (nodes_of t) (suc k)) → IsPlaced (nodes_of t) (suc k)
from_row t known kind other k row =
    record {
      root = λ e. absurd (omega arith);
      other = λ some e. other (sym row.is ∙ e);
      falls = λ some. row.falls;
      below = λ some. no_core t known (node_at (nodes_of t) (suc k)).parent row.broker;
    }

placed : (t : TreeText) → Known t → (z : ℕ) → z < length (nodes_of t) → IsPlaced (nodes_of t) z
placed t known zero lt =
    record {
      root = λ e. ap (λ (row : NodeRow). row.kind) (root_at t);
      other = λ some. absurd (omega arith);
      falls = λ some. absurd (omega arith);
      below = λ some. absurd (omega arith);
    }
placed t known (suc k) lt = elim (cases_lt k (length t.brokers)) [
  | inl before ↦ from_row t known Broker (λ e. cc) k (broker_at t known k before)
  | inr past ↦ from_row t known Core (λ e. cc) k (core_at t known k past (omega (arith, nodes_length t)))
]

-- ---- the cores of the entries

within : (b : Bool) (n m place : ℕ) → nat_lt n m ≡ b → cond b (Some n) None ≡ Some place → place < m
within true n m place lt e = let same : n ≡ place = cc in grind (arith, nat_tests)
within false n m place lt e = cc

place_within : (names : List (List ℕ)) (name : List ℕ) (place : ℕ) → place_of names name ≡ Some place → place < length names
place_within names name place e =
    within (nat_lt (position_or_len (bytes_eq name) names) (length names)) (position_or_len (bytes_eq name) names) (length names) place refl e

abbrev as_core : ℕ → Option ℕ → Option ℕ
as_core brokers found = option_and_then (λ place. then_some (nat_lt brokers place) place) found

core_bounds : (names : List (List ℕ)) (brokers : ℕ) (core : Option (List ℕ)) → brokers + 1 < length names → is_some (core_of names brokers core) ≡ true
    → (brokers < unwrap_or (core_of names brokers core) 0) × (unwrap_or (core_of names brokers core) 0 < length names)
core_bounds names brokers None some h = (omega arith, some)
core_bounds names brokers (Some core) some h = go (place_of names core) refl h
  where
    go : (found : Option ℕ) → place_of names core ≡ found → is_some (as_core brokers found) ≡ true
        → (brokers < unwrap_or (as_core brokers found) 0) × (unwrap_or (as_core brokers found) 0 < length names)
    go None is h = cc
    go (Some place) is h = let inside = place_within names core place is in grind (arith, nat_tests)

core_kind : (t : TreeText) → Known t → 0 < length t.cores → (core : Option (List ℕ)) → is_some (core_of (names_of t) (length t.brokers) core) ≡ true
    → kind_at (nodes_of t) (unwrap_or (core_of (names_of t) (length t.brokers) core) 0) ≡ Core
core_kind t known some core h =
    let n : ℕ = unwrap_or (core_of (names_of t) (length t.brokers) core) 0 in
    let bounds = core_bounds (names_of t) (length t.brokers) core (omega (arith, names_length t)) h in
    let above : length t.brokers < n = bounds.0 in
    let inside : n < length (names_of t) = bounds.1 in
    let row = core_at t known (n - 1) (omega (arith, above)) (omega (arith, above, inside, names_length t)) in
    let number : suc (n - 1) ≡ n = omega (arith, above) in
    subst (λ (z : ℕ). kind_at (nodes_of t) z ≡ Core) number row.is

cores_are : (t : TreeText) → Known t → 0 < length t.cores → (entries : List Listed) → has_cores (names_of t) (length t.brokers) entries ≡ true
    → (c : ℕ) → IsIn c (map (λ (e : Entry). e.core) (map (entry_in t) (federates_of entries))) → kind_at (nodes_of t) c ≡ Core
cores_are t known some [] all c there = absurd there
cores_are t known some (e ∷ es) all c there =
    let parts = both (is_some (core_of (names_of t) (length t.brokers) e.core)) (has_cores (names_of t) (length t.brokers) es) all in
    go (not (is_broker_listed e)) parts.0 (cores_are t known some es parts.1 c) there
  where
    go : (b : Bool) → is_some (core_of (names_of t) (length t.brokers) e.core) ≡ true
        → (IsIn c (map (λ (e : Entry). e.core) (map (entry_in t) (federates_of es))) → kind_at (nodes_of t) c ≡ Core)
        → IsIn c (map (λ (e : Entry). e.core) (map (entry_in t) (cond b (e ∷ federates_of es) (federates_of es)))) → kind_at (nodes_of t) c ≡ Core
    go true here later (inl same) = subst (λ (z : ℕ). kind_at (nodes_of t) z ≡ Core) (sym same) (core_kind t known some e.core here)
    go true here later (inr more) = later more
    go false here later more = later more

-- ---- trees without a cause

record Fits (t : TreeText) (entries : List Listed) : Type 0 where
  known : Known t
  cores : has_cores (names_of t) (length t.brokers) entries ≡ true
  few : length (names_of t) ≤ most_nodes

fits : (t : TreeText) (entries : List Listed) → cause_of t entries ≡ None → Fits t entries
unfolding cause_of
fits t entries none =
    let parts = go (are_different (names_of t)) (has_parents (names_of t) t) (has_cores (names_of t) (length t.brokers) entries)
    (nat_lt most_nodes (length (names_of t))) none in
    let known = both (are_known (names_of t) (length t.brokers) 1 t.brokers) (are_known (names_of t) (length t.brokers) (1 + length t.brokers) t.cores) parts.0 in
    let few : nat_lt most_nodes (length (names_of t)) ≡ false = parts.2 in
    record { known = record { brokers = known.0; cores = known.1 }; cores = parts.1; few = grind (arith, nat_tests) }
  where
    go : (d p c m : Bool)
        → cond d (cond (not p) (Some UnknownParent) (cond (not c) (Some UnknownCore) (cond m (Some TooManyNodes) None))) (Some NameTwice) ≡ None
        → (p ≡ true) × (c ≡ true) × (m ≡ false)
    go false p c m e = cc
    go true false c m e = cc
    go true true false m e = cc
    go true true true true e = cc
    go true true true false e = (refl, refl, refl)

-- the nodes and the cores of the entries are a valid tree
pub valid : (t : TreeText) (entries : List Listed) → 0 < length t.cores → cause_of t entries ≡ None → IsValid (tree_with (runner_with t entries))
valid t entries some none =
    let f = fits t entries none in
    let few : length (names_of t) ≤ most_nodes = f.few in
    record {
      some = omega (arith, nodes_length t);
      few = omega (arith, nodes_length t, names_length t, few);
      placed = placed t f.known;
      cores = cores_are t f.known some entries f.cores;
    }
