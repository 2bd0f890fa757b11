use Rattle.std.proofs.Common.{not, sym, ◌∙◌, ap}
use Rattle.std.specs.Prelude.{None}
use Rattle.due_queue.specs.Item.{Parcel, is_due}
use Rattle.due_queue.specs.Queue.{TakesDue}
use Rattle.due_queue.proofs.Dues.{filter_each}
use Rattle.one_place.proofs.seat.drop_due.Goals as goal

pub returns : goal.returns
returns c =
    let takes : TakesDue c.args.cut c.loop.queue None c.take_due.new.self = c.in_default.ensures.takes in
    takes.1 ∙ sym (filter_each (λ (i : Parcel). not (is_due c.args.cut i)) c.loop.queue (λ i among. ap not (takes.0 i among))) ∙ c.loop.invariant
