use Rattle.due_queue.proofs.Dues.{filter_is_queue}
use Rattle.due_queue.proofs.queue.DueQueue.take_back.Goals as goal

pub invariant_of-self : goal.invariant_of-self
invariant_of-self c = rw c.take_call.ensures.after (filter_is_queue _ _ c.self.invariant)
