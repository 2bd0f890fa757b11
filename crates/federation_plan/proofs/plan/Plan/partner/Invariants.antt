use Rattle.federation_plan.proofs.Waiting.{AreLeft}
use Rattle.federation_plan.proofs.plan.Plan.partner.Given as goal

abbrev pub invariant-loop-b : goal.invariant-loop-b
invariant-loop-b l = AreLeft l.self l.a l.b-index l.b-items
