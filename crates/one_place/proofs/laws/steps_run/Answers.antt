use Rattle.one_place.proofs.Accepting.{steps_run}
use Rattle.one_place.proofs.laws.steps_run.Goals as goal

pub returns : goal.returns
returns c = steps_run
