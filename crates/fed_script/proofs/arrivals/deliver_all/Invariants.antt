use Rattle.std.proofs.Common.{◌≡◌}
use Rattle.std.specs.Vec.Iter.{into_iter_items}
use Rattle.fed_script.specs.View.{delivered}
use Rattle.fed_script.specs.Room.{letters_of, HasRoom}
use Rattle.fed_script.proofs.arrivals.deliver_all.Given as goal

abbrev pub invariant-loop-endpoint : goal.invariant-loop-endpoint
invariant-loop-endpoint l = record {
  room : HasRoom l.inboxes (into_iter_items l.endpoint-iterator);
  same : delivered (letters_of l.inboxes) (into_iter_items l.endpoint-iterator) ≡ delivered (letters_of l.initial.inboxes) (into_iter_items l.initial.endpoint-iterator);
}
