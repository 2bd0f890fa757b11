use Rattle.std.proofs.Common.{◌≡◌, drop, find}
use Rattle.runner_config.specs.Runner.{is_broker_listed}
use Rattle.runner_config.proofs.reading.check_count.Given as goal

abbrev pub invariant-loop-entry : goal.invariant-loop-entry
invariant-loop-entry l = find is_broker_listed (drop l.entry-index l.entries) ≡ find is_broker_listed l.entries
