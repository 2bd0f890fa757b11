use Rattle.std.proofs.Common.{◌≡◌, length}
use Rattle.helics_time.specs.Spelled.{after_spaces}
use Rattle.helics_time.proofs.parse.without_spaces.Given as goal

abbrev pub invariant-loop-rest : goal.invariant-loop-rest
invariant-loop-rest l = after_spaces l.rest ≡ after_spaces l.initial.rest

abbrev pub decreases-loop-rest : goal.decreases-loop-rest
decreases-loop-rest l = length l.rest
