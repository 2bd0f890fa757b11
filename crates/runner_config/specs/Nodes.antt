-- The nodes of a tree, numbered: the root, the brokers, the cores.
use Rattle.std.specs.Prelude.{ℕ, ◌≡◌, ◌≤◌, ◌+◌, ◌&&◌, Bool, not, nat_lt, nat_le, if◌then◌else◌, List, ◌∷◌, ◌++◌, length, map, codes, Option, Some, None, is_some, option_and_then, unwrap_or, Result, Ok, Err}
use Rattle.std.specs.Bool.{then_some}
use Rattle.std.specs.List.{list_all, enumerate_from}
use Rattle.federation_plan.specs.declared.tree.NodeKind.{NodeKind}
use Rattle.federation_plan.specs.declared.tree.NodeKind.TheVariants.{Root, Broker, Core}
use Rattle.federation_plan.specs.declared.tree.NodeRow.{NodeRow}
use Rattle.federation_plan.specs.Tree.{most_nodes}
use Rattle.runner_config.specs.declared.refusal.TreeCause.{TreeCause}
use Rattle.runner_config.specs.declared.refusal.TreeCause.TheVariants.{NameTwice, UnknownParent, UnknownCore, TooManyNodes}
use Rattle.runner_config.specs.declared.entries.Listed.{Listed}
use Rattle.runner_config.specs.declared.nodes.Nodes.{Nodes}
use Rattle.runner_config.specs.declared.shape.NodeText.{NodeText}
use Rattle.runner_config.specs.declared.shape.TreeText.{TreeText}
use Rattle.runner_config.specs.Names.{place_of, are_different}

abbrev pub node_names : List NodeText → List (List ℕ)
node_names nodes = map (λ (n : NodeText). n.name) nodes

-- the names of all nodes, in the order of their numbers
abbrev pub names_of : TreeText → List (List ℕ)
names_of t = codes "root" ∷ (node_names t.brokers ++ node_names t.cores)

-- the parent of a node, by the names of all nodes, the number of brokers, and the node's own number: the root or a broker,
-- with a lower number
abbrev pub parent_of : List (List ℕ) → ℕ → ℕ → List ℕ → Option ℕ
parent_of names brokers number parent =
    option_and_then (λ place. then_some (nat_lt place number && nat_le place brokers) place) (place_of names parent)

-- nodes, the first of which has this number, have parents
abbrev pub are_known : List (List ℕ) → ℕ → ℕ → List NodeText → Bool
are_known names brokers number nodes =
    list_all (λ (n : ℕ × NodeText). is_some (parent_of names brokers n.0 n.1.parent)) (enumerate_from number nodes)

-- the core of that name, and the first without a name
abbrev pub core_of : List (List ℕ) → ℕ → Option (List ℕ) → Option ℕ
core_of names brokers None = Some (brokers + 1)
core_of names brokers (Some core) = option_and_then (λ place. then_some (nat_lt brokers place) place) (place_of names core)

-- the nodes of a tree have parents
abbrev pub has_parents : List (List ℕ) → TreeText → Bool
has_parents names t =
    are_known names (length t.brokers) 1 t.brokers && are_known names (length t.brokers) (1 + length t.brokers) t.cores

-- each entry has a core
abbrev pub has_cores : List (List ℕ) → ℕ → List Listed → Bool
has_cores names brokers entries = list_all (λ (e : Listed). is_some (core_of names brokers e.core)) entries

-- the first cause by names of which each stands once
abbrev pub cause_by : List (List ℕ) → TreeText → List Listed → Option TreeCause
cause_by names t entries =
    if not (has_parents names t) then Some UnknownParent
    else (if not (has_cores names (length t.brokers) entries) then Some UnknownCore
    else (if nat_lt most_nodes (length names) then Some TooManyNodes else None))

-- the first cause against a tree under these entries
unfoldable pub cause_of : TreeText → List Listed → Option TreeCause
cause_of t entries = if are_different (names_of t) then cause_by (names_of t) t entries else Some NameTwice

-- nodes of a kind, the first of which has this number
abbrev pub rows_from : List (List ℕ) → ℕ → NodeKind → ℕ → List NodeText → List NodeRow
rows_from names brokers kind number nodes =
    map (λ (n : ℕ × NodeText). record { name = n.1.name; parent = unwrap_or (parent_of names brokers n.0 n.1.parent) 0; kind = kind })
    (enumerate_from number nodes)

abbrev pub root_row : NodeRow
root_row = record { name = codes "root"; parent = 0; kind = Root }

-- all nodes
unfoldable pub nodes_of : TreeText → List NodeRow
nodes_of t =
    root_row
    ∷ (rows_from (names_of t) (length t.brokers) Broker 1 t.brokers
    ++ rows_from (names_of t) (length t.brokers) Core (1 + length t.brokers) t.cores)

-- ---- what the code keeps

-- the names are those of the tree's nodes, which are few
pub record IsNodes (n : Nodes) : Type 0 where
  pub named : n.names ≡ names_of n.tree
  pub few : length n.names ≤ most_nodes

-- a tree without a cause, or the first cause
abbrev pub Made : TreeText → List Listed → Result Nodes TreeCause → Type 0
Made t entries (Ok nodes) = (cause_of t entries ≡ None) × (nodes.tree ≡ t) × IsNodes nodes
Made t entries (Err cause) = cause_of t entries ≡ Some cause
