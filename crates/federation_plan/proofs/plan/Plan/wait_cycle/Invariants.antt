use Rattle.federation_plan.proofs.Waiting.{AreDone}
use Rattle.federation_plan.proofs.plan.Plan.wait_cycle.Given as goal

abbrev pub invariant-loop-a : goal.invariant-loop-a
invariant-loop-a l = AreDone l.self l.a
