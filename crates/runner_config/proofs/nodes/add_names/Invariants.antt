use Rattle.std.proofs.Common.{◌≡◌, ◌++◌, map, take}
use Rattle.runner_config.specs.declared.shape.NodeText.{NodeText}
use Rattle.runner_config.proofs.nodes.add_names.Given as goal

abbrev pub invariant-loop-node : goal.invariant-loop-node
invariant-loop-node l = l.names ≡ l.fn.names ++ map (λ (n : NodeText). n.name) (take l.node-index l.nodes)
