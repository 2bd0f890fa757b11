use Rattle.std.proofs.Common.{◌≡◌, take}
use Rattle.federation_plan.specs.Tree.{parents_of}
use Rattle.federation_plan.proofs.tree.parents.Given as goal

abbrev pub invariant-loop-row : goal.invariant-loop-row
invariant-loop-row l = l.numbers ≡ parents_of (take l.row-index l.nodes)
