use Rattle.std.proofs.Common.{arith}
use Rattle.federation_plan.proofs.Lists.{each_next, each_all}
use Rattle.federation_plan.proofs.plan.know_all.Goals as goal

pub loop-federate-preserved : goal.loop-federate-preserved
loop-federate-preserved c = each_next _ c.args.federates.now c.loop-federate.federate-index c.federate-item.result (omega arith) c.federate-item.is c.loop-federate.invariant c.know.ensures

pub returns : goal.returns
returns c = each_all _ c.args.federates.now c.loop-federate.federate-index (omega arith) c.loop-federate.invariant
