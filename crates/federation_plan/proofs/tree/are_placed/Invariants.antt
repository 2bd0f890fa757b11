use Rattle.std.proofs.Common.{ℕ, ◌<◌}
use Rattle.federation_plan.specs.Tree.{IsPlaced}
use Rattle.federation_plan.proofs.tree.are_placed.Given as goal

abbrev pub invariant-loop-number : goal.invariant-loop-number
invariant-loop-number l = (z : ℕ) → z < l.number → IsPlaced l.nodes z
