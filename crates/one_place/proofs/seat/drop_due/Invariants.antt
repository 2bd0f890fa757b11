use Rattle.std.proofs.Common.{◌≡◌, length}
use Rattle.std.specs.Prelude.{not}
use Rattle.std.specs.List.{filter}
use Rattle.due_queue.specs.Item.{Parcel, is_due}
use Rattle.one_place.proofs.seat.drop_due.Given as goal

abbrev pub invariant-loop : goal.invariant-loop
invariant-loop l = filter (λ (i : Parcel). not (is_due l.cut i)) l.queue ≡ filter (λ (i : Parcel). not (is_due l.cut i)) l.fn.queue

abbrev pub decreases-loop : goal.decreases-loop
decreases-loop l = length l.queue
