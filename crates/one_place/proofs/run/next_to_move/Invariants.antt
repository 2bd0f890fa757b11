use Rattle.std.proofs.Common.{◌≡◌, ◌<◌, ℕ, false}
use Rattle.one_place.specs.Run.{may_move}
use Rattle.one_place.proofs.run.next_to_move.Given as goal

-- no federate before f may act
abbrev pub invariant-loop-f : goal.invariant-loop-f
invariant-loop-f l = (g : ℕ) → g < l.f → may_move l.machine g ≡ false
