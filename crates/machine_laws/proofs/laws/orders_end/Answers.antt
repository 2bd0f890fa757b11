use Rattle.machine_laws.proofs.OneEnd.{orders_end, reference_ends}
use Rattle.machine_laws.proofs.laws.orders_end.Goals as goal

pub returns : goal.returns
returns c = record { orders = orders_end; reference = reference_ends }
