use Rattle.std.proofs.Common.{◌≡◌, ◌+◌, drop}
use Rattle.runner_config.specs.Nodes.{are_known}
use Rattle.runner_config.proofs.nodes.are_known.Given as goal

abbrev pub invariant-loop-place : goal.invariant-loop-place
invariant-loop-place l = are_known l.names l.brokers (l.first + l.place) (drop l.place l.nodes) ≡ are_known l.names l.brokers l.first l.nodes
