use Rattle.std.proofs.Common.{◌≡◌, take}
use Rattle.hel_lists.specs.Members.{Each}
use Rattle.federation_plan.specs.Tree.{kind_at}
use Rattle.federation_plan.specs.declared.tree.NodeKind.TheVariants.{Core}
use Rattle.federation_plan.proofs.tree.are_cores.Given as goal

abbrev pub invariant-loop-core : goal.invariant-loop-core
invariant-loop-core l = Each (λ c. kind_at l.nodes c ≡ Core) (take l.core-index l.cores)
