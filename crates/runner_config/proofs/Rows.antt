-- The nodes of a tree.
use Rattle.std.proofs.Common.{◌≡◌, ℕ, ◌+◌, suc, arith, List, [], ◌∷◌, length, length-append, ap, refl}
use Rattle.federation_plan.specs.declared.tree.NodeKind.{NodeKind}
use Rattle.runner_config.specs.declared.shape.NodeText.{NodeText}
use Rattle.runner_config.specs.declared.shape.TreeText.{TreeText}
use Rattle.runner_config.specs.Nodes.{node_names, names_of, rows_from}

-- a row for each node
pub rows_length : (names : List (List ℕ)) (brokers : ℕ) (kind : NodeKind) (number : ℕ) (nodes : List NodeText) → length (rows_from names brokers kind number nodes) ≡ length nodes
rows_length names brokers kind number [] = refl
rows_length names brokers kind number (node ∷ nodes) = ap suc (rows_length names brokers kind (number + 1) nodes)

names_count : (nodes : List NodeText) → length (node_names nodes) ≡ length nodes
names_count [] = refl
names_count (node ∷ nodes) = ap suc (names_count nodes)

-- a name for each node
pub names_length : (t : TreeText) → length (names_of t) ≡ 1 + (length t.brokers + length t.cores)
names_length t =
    let all = length-append (node_names t.brokers) (node_names t.cores) in
    let brokers = names_count t.brokers in
    let cores = names_count t.cores in
    omega arith
