use Rattle.std.proofs.Common.{◌≡◌, take}
use Rattle.federation_plan.proofs.plan.copies.Given as goal

abbrev pub invariant-loop-f : goal.invariant-loop-f
invariant-loop-f l = l.records ≡ take l.f l.registry
