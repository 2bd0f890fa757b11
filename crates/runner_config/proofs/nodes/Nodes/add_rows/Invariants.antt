use Rattle.std.proofs.Common.{◌≡◌, ◌+◌, ◌++◌, drop, length}
use Rattle.runner_config.specs.Nodes.{rows_from}
use Rattle.runner_config.proofs.nodes.Nodes.add_rows.Given as goal

abbrev pub invariant-loop-place : goal.invariant-loop-place
invariant-loop-place l =
    l.rows ++ rows_from l.self.names (length l.self.tree.brokers) l.kind (l.first + l.place) (drop l.place l.nodes)
    ≡ l.fn.rows ++ rows_from l.self.names (length l.self.tree.brokers) l.kind (length l.fn.rows) l.nodes
