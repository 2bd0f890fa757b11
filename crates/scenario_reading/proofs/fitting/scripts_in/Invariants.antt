use Rattle.std.proofs.Common.{◌≡◌}
use Rattle.scenario_reading.specs.Fitting.{scripts_in}
use Rattle.scenario_reading.proofs.fitting.scripts_in.Given as goal

abbrev pub invariant-loop-script : goal.invariant-loop-script
invariant-loop-script l = l.all ≡ scripts_in l.yielded
