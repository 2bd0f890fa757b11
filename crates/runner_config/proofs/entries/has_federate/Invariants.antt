use Rattle.std.proofs.Common.{◌≡◌, drop}
use Rattle.serde_json.specs.View.{items_view}
use Rattle.runner_config.specs.Entries.{has_federate}
use Rattle.runner_config.proofs.entries.has_federate.Given as goal

abbrev pub invariant-loop-value : goal.invariant-loop-value
invariant-loop-value l = has_federate (items_view (drop l.value-index l.list)) ≡ has_federate (items_view l.list)
