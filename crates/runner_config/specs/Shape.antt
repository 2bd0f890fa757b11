-- The tree as a runner file spells it.
use Rattle.std.specs.Prelude.{ℕ, List, [], ◌∷◌, codes, if◌then◌else◌, Option, Some, None, unwrap_or, Ok, Err}
use Rattle.serde_json.specs.Data.{Data}
use Rattle.json_reading.specs.Keys.{Member, member_at, is_doubled}
use Rattle.json_reading.specs.Reading.{Read, ◌>>=◌, members_of, needed_at, optional_at, list_of}
use Rattle.json_reading.specs.Leaves.{any_text}
use Rattle.runner_config.specs.declared.shape.NodeText.{NodeText}
use Rattle.runner_config.specs.declared.shape.TreeText.{TreeText}

abbrev pub node_keys : List (List ℕ)
node_keys = codes "name" ∷ codes "parent" ∷ []

-- a node's name, and its parent's: without one the root's
unfoldable pub node_of : Data → Read NodeText
node_of value = do
  members ← members_of node_keys value
  name ← needed_at (codes "name") any_text members
  parent ← optional_at (codes "parent") any_text members
  Ok (record { name = name; parent = unwrap_or parent (codes "root") })

abbrev pub tree_keys : List (List ℕ)
tree_keys = codes "brokers" ∷ codes "cores" ∷ []

unfoldable pub tree_text_of : Data → Read TreeText
tree_text_of value = do
  members ← members_of tree_keys value
  brokers ← needed_at (codes "brokers") (list_of node_of) members
  cores ← needed_at (codes "cores") (list_of node_of) members
  Ok (record { brokers = brokers; cores = cores })

-- the root and one core
abbrev pub default_tree : TreeText
default_tree = record { brokers = []; cores = record { name = codes "core"; parent = codes "root" } ∷ [] }

abbrev pub with_core : TreeText → List NodeText → Option TreeText
with_core tree [] = None
with_core tree (core ∷ cores) = Some tree

-- a tree that is of the form, with at least one core
abbrev pub of_form : Read TreeText → Option TreeText
of_form (Ok tree) = with_core tree tree.cores
of_form (Err refusal) = None

abbrev pub tree_in : Data → Option TreeText
tree_in value = of_form (tree_text_of value)

abbrev pub tree_at : Option Member → Option TreeText
tree_at None = Some default_tree
tree_at (Some m) = tree_in m.1

-- the tree of a file with these members
abbrev pub tree_of : List Member → Option TreeText
tree_of members = if is_doubled (codes "tree" ∷ []) members then None else tree_at (member_at (codes "tree") members)
