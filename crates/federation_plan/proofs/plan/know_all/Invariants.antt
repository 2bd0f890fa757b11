use Rattle.std.proofs.Common.{take}
use Rattle.hel_lists.specs.Members.{Each}
use Rattle.federation_plan.specs.Plan.{IsKept}
use Rattle.federation_plan.proofs.plan.know_all.Given as goal

abbrev pub invariant-loop-federate : goal.invariant-loop-federate
invariant-loop-federate l = Each IsKept (take l.federate-index l.federates)
