use Rattle.one_place.proofs.Endings.{failure_runs}
use Rattle.one_place.proofs.laws.failure_runs.Goals as goal

pub returns : goal.returns
returns c = failure_runs
