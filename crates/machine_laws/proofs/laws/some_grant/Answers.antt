use Rattle.machine_laws.proofs.Enabled.{some_grant}
use Rattle.machine_laws.proofs.laws.some_grant.Goals as goal

pub returns : goal.returns
returns c = some_grant
