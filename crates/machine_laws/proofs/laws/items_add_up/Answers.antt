use Rattle.machine_laws.proofs.Held.{logs_hold}
use Rattle.machine_laws.proofs.Ledger.{items_add_up}
use Rattle.machine_laws.proofs.laws.items_add_up.Goals as goal

pub returns : goal.returns
returns c = record { items = items_add_up; logs = logs_hold }
