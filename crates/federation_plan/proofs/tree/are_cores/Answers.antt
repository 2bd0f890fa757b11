use Rattle.std.proofs.Common.{arith, refl, sym}
use Rattle.std.proofs.lemmas.Bool.{true≢false}
use Rattle.hel_lists.proofs.Members.{at_in}
use Rattle.federation_plan.proofs.Lists.{each_more}
use Rattle.federation_plan.proofs.tree.are_cores.Goals as goal

pub loop-core-preserved : goal.loop-core-preserved
loop-core-preserved c = each_more _ _ _ 0 (omega arith) c.loop-core.invariant (c.if-not-is_core.ensures.0 refl)

pub returns-then-not-is_core : goal.returns-then-not-is_core
returns-then-not-is_core c = (
  (λ holds. absurd (true≢false (sym holds))),
  (λ each. c.if-not-is_core.ensures.1 (each _ (at_in _ c.loop-core.core-index 0 (omega arith)))),
)
