use Rattle.machine_laws.proofs.Early.{early_names_the_least}
use Rattle.machine_laws.proofs.laws.early_names_the_least.Goals as goal

pub returns : goal.returns
returns c = early_names_the_least
