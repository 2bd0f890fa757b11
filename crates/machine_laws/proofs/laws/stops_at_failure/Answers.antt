use Rattle.machine_laws.proofs.Failures.{stops_at_failure}
use Rattle.machine_laws.proofs.laws.stops_at_failure.Goals as goal

pub returns : goal.returns
returns c = stops_at_failure
