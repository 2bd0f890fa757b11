use Rattle.std.proofs.Common.{◌≡◌, drop}
use Rattle.helics_time.specs.Spelled.{number_of, number_after}
use Rattle.helics_time.proofs.parse.number.Given as goal

abbrev pub invariant-loop-place : goal.invariant-loop-place
invariant-loop-place l = number_after l.number (drop l.place l.digits) ≡ number_of l.digits
