use Rattle.std.proofs.Common.{◌≡◌}
use Rattle.scenario_reading.specs.Fitting.{federates_of, scripts_of}
use Rattle.scenario_reading.proofs.fitting.parts_of.Given as goal

abbrev pub invariant-loop-config : goal.invariant-loop-config
invariant-loop-config l =
    record {
      federates : l.federates ≡ federates_of l.yielded;
      scripts : l.scripts ≡ scripts_of l.yielded;
    }
