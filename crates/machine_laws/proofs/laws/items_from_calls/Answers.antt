use Rattle.machine_laws.proofs.Fates.{items_from_calls}
use Rattle.machine_laws.proofs.laws.items_from_calls.Goals as goal

pub returns : goal.returns
returns c = items_from_calls
