use Rattle.std.proofs.Common.{arith}
use Rattle.federation_plan.proofs.Lists.{taken_more}
use Rattle.federation_plan.proofs.plan.copies.Goals as goal

pub loop-f-preserved : goal.loop-f-preserved
loop-f-preserved c = taken_more c.args.registry.now _ _ c.loop-f.f c.federate.result.now _ (omega arith) c.loop-f.invariant c.in_ok-push.ensures.ok c.in_ok-copy.ensures c.federate.ensures
