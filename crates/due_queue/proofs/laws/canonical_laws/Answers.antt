use Rattle.due_queue.proofs.Canonical.{canonical_laws}
use Rattle.due_queue.proofs.laws.canonical_laws.Goals as goal

pub returns : goal.returns
returns c = canonical_laws
