use Rattle.std.proofs.Common.{◌≡◌, drop}
use Rattle.std.specs.List.{position_from}
use Rattle.std.specs.Option.{is_none}
use Rattle.scenario_reading.proofs.fitting.first_missing.Given as goal

abbrev pub invariant-loop-f : goal.invariant-loop-f
invariant-loop-f l = position_from is_none l.f (drop l.f l.scripts) ≡ position_from is_none 0 l.scripts
