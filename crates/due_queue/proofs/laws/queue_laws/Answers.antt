use Rattle.due_queue.proofs.Canonical.{queue_laws}
use Rattle.due_queue.proofs.laws.queue_laws.Goals as goal

pub returns : goal.returns
returns c = queue_laws
