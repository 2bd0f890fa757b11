use Rattle.std.proofs.Common.{below_more, refl}
use Rattle.federation_plan.proofs.tree.are_placed.Goals as goal

pub loop-number-preserved : goal.loop-number-preserved
loop-number-preserved c = below_more _ _ c.loop-number.invariant (c.if-not-is_placed.ensures.0 refl)
