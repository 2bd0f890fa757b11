use Rattle.std.proofs.Common.{◌≡◌, length}
use Rattle.runner_config.specs.Counts.{counts_other}
use Rattle.runner_config.proofs.counts.counts_other.Given as goal

abbrev pub invariant-loop-rest : goal.invariant-loop-rest
invariant-loop-rest l = counts_other l.count l.rest ≡ counts_other l.count l.words

abbrev pub decreases-loop-rest : goal.decreases-loop-rest
decreases-loop-rest l = length l.rest
