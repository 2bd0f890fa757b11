use Rattle.std.proofs.Common.{◌≡◌, drop}
use Rattle.runner_config.specs.Nodes.{has_cores}
use Rattle.runner_config.proofs.nodes.have_cores.Given as goal

abbrev pub invariant-loop-entry : goal.invariant-loop-entry
invariant-loop-entry l = has_cores l.names l.brokers (drop l.entry-index l.entries) ≡ has_cores l.names l.brokers l.entries
