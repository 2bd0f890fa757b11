use Rattle.one_place.proofs.Accepting.{reference_runs}
use Rattle.one_place.proofs.laws.reference_runs.Goals as goal

pub returns : goal.returns
returns c = reference_runs
