use Rattle.std.proofs.Common.{◌≡◌, take}
use Rattle.scenario_reading.specs.Fitting.{cores_of}
use Rattle.scenario_reading.proofs.fitting.cores_of.Given as goal

abbrev pub invariant-loop-entry : goal.invariant-loop-entry
invariant-loop-entry l = l.cores ≡ cores_of (take l.entry-index l.entries)
