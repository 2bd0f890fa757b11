use Rattle.std.proofs.Common.{◌≡◌, ◌≤◌, length}
use Rattle.helics_time.specs.Spelled.{number_after, number_of}
use Rattle.runner_config.proofs.counts.is_other.Given as goal

abbrev pub invariant-loop-rest : goal.invariant-loop-rest
invariant-loop-rest l = record { few : l.number ≤ l.count; whole : number_after l.number l.rest ≡ number_of l.digits }

abbrev pub decreases-loop-rest : goal.decreases-loop-rest
decreases-loop-rest l = length l.rest
