use Rattle.machine_laws.proofs.Stuck.{stuck_waits}
use Rattle.machine_laws.proofs.laws.stuck_waits.Goals as goal

pub returns : goal.returns
returns c = stuck_waits
