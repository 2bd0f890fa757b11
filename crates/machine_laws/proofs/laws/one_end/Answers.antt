use Rattle.machine_laws.proofs.OneEnd.{one_end}
use Rattle.machine_laws.proofs.laws.one_end.Goals as goal

pub returns : goal.returns
returns c = one_end
