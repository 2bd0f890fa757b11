use Rattle.machine_laws.proofs.OneEnd.{reference_logs}
use Rattle.machine_laws.proofs.laws.reference_logs.Goals as goal

pub returns : goal.returns
returns c = reference_logs
