use Rattle.std.proofs.Common.{subst}
use Rattle.helics_time.specs.Stamp.{IsDue}
use Rattle.due_queue.specs.Item.{Parcel}
use Rattle.due_queue.proofs.Dues.{enqueue_is_queue, enqueue_puts}
use Rattle.due_queue.proofs.queue.DueQueue.put.Goals as goal
use Rattle.due_queue.proofs.queue.DueQueue.put.Goals.{in-Ok, in-Err}

pub invariant_of-self : goal.invariant_of-self
invariant_of-self c = elim c.match-insert.branch [
  | in-Ok w ↦ rw (w.in-Ok.ensures.items, c.place_behind-place.ensures.place) (enqueue_is_queue c.args.item _ (subst (λ (i : Parcel). IsDue i.due) c.item.view_is c.item.invariant) c.self.invariant)
  | in-Err w ↦ rw w.in-Err.ensures.unchanged.0 c.self.invariant
]

pub returns-clause-place : goal.returns-clause-place
returns-clause-place c = elim c.match-insert.branch [
  | in-Ok w ↦ rw (w.result-is, w.in-Ok.ensures.items, c.place_behind-place.ensures.place, ← c.self.view_is) (enqueue_puts _ _ c.self.invariant.in_order)
  | in-Err w ↦ rw w.result-is tt
]
