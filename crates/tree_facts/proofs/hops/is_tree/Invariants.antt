use Rattle.std.proofs.Common.{ℕ, ◌<◌, max}
use Rattle.tree_facts.specs.Tree.{parent}
use Rattle.tree_facts.proofs.hops.is_tree.Given as goal

abbrev pub invariant-loop-node : goal.invariant-loop-node
invariant-loop-node l = (z : ℕ) → z < l.node → parent l.parents z < max z 1
