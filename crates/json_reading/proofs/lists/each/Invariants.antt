use Rattle.std.proofs.Common.{◌≡◌, drop}
use Rattle.serde_json.specs.View.{items_view}
use Rattle.json_reading.specs.Reading.{each_from}
use Rattle.json_reading.proofs.Fronts.{with_front}
use Rattle.json_reading.proofs.lists.each.Given as goal

abbrev pub invariant-loop-place : goal.invariant-loop-place
invariant-loop-place g l =
    with_front l.found (each_from (g.R.Reader.reads l.reader) l.place (items_view (drop l.place l.list)))
    ≡ each_from (g.R.Reader.reads l.reader) 0 (items_view l.list)
