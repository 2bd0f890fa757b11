use Rattle.machine_laws.proofs.Onward.{nothing_late}
use Rattle.machine_laws.proofs.laws.nothing_late.Goals as goal

pub returns : goal.returns
returns c = nothing_late
