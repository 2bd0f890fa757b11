-- Trees of nodes, and the core of each federate.
use Rattle.std.specs.Prelude.{ℕ, ◌<◌, ◌≤◌, ◌≡◌, ◌≢◌, List, [], map, length, slice_index_or}
use Rattle.hel_lists.specs.Members.{Each}
use Rattle.federation_plan.specs.declared.tree.NodeKind.{NodeKind}
use Rattle.federation_plan.specs.declared.tree.NodeKind.TheVariants.{Root, Core}
use Rattle.federation_plan.specs.declared.tree.NodeRow.{NodeRow}
use Rattle.federation_plan.specs.declared.tree.Tree.{Tree}

-- the most nodes
abbrev pub most_nodes : ℕ
most_nodes = 128

-- stands where there is no node of that number
abbrev pub blank_node : NodeRow
blank_node = record { name = []; parent = 0; kind = Root }

abbrev pub node_at : List NodeRow → ℕ → NodeRow
node_at nodes z = slice_index_or nodes z blank_node

abbrev pub kind_at : List NodeRow → ℕ → NodeKind
kind_at nodes z = (node_at nodes z).kind

-- node 0 is the root; each other node is none, and stands below a root or broker of a lower number
pub record IsPlaced (nodes : List NodeRow) (z : ℕ) : Type 0 where
  pub root : z ≡ 0 → kind_at nodes z ≡ Root
  pub other : 0 < z → kind_at nodes z ≢ Root
  pub falls : 0 < z → (node_at nodes z).parent < z
  pub below : 0 < z → kind_at nodes (node_at nodes z).parent ≢ Core

pub record IsValid (t : Tree) : Type 0 where
  pub some : 0 < length t.nodes
  pub few : length t.nodes ≤ most_nodes
  pub placed : (z : ℕ) → z < length t.nodes → IsPlaced t.nodes z
  pub cores : Each (λ c. kind_at t.nodes c ≡ Core) t.cores

-- the parent of a node, 0 for the root
abbrev pub above : NodeRow → ℕ
above row = above_of row.kind row.parent
  where
    above_of : NodeKind → ℕ → ℕ
    above_of Root parent = 0
    above_of kind parent = parent

abbrev pub parents_of : List NodeRow → List ℕ
parents_of nodes = map above nodes
