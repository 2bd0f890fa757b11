use Rattle.std.proofs.Common.{◌≡◌, ◌<◌, ◌≤◌, length, drop, Some}
use Rattle.helics_time.specs.Steps.{part_of}
use Rattle.helics_time.proofs.parse.part.Given as goal

abbrev pub invariant-loop-place : goal.invariant-loop-place
invariant-loop-place l = (l.place ≤ length l.digits) × (part_of l.unit (drop l.place l.digits) ≡ Some l.part) × (l.part < l.unit)

abbrev pub decreases-loop-place : goal.decreases-loop-place
decreases-loop-place l = l.place
