use Rattle.std.proofs.Common.{◌≡◌, false, drop}
use Rattle.serde_json.specs.View.{items_view}
use Rattle.runner_config.specs.Entries.{entries_from, AreInOrder}
use Rattle.runner_config.proofs.Fronts.{with_front}
use Rattle.runner_config.proofs.Ascending.{AreBelow}
use Rattle.runner_config.proofs.entries.entries.Given as goal

abbrev pub invariant-loop-place : goal.invariant-loop-place
invariant-loop-place l =
    record {
      below : AreBelow l.place l.found;
      places : AreInOrder l.found;
      rest : with_front l.found (entries_from l.met l.place (items_view (drop l.place l.list))) ≡ entries_from false 0 (items_view l.list);
    }
