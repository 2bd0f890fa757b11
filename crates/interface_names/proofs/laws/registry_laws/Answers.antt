use Rattle.interface_names.proofs.Runs.{registry_laws}
use Rattle.interface_names.proofs.laws.registry_laws.Goals as goal

pub returns : goal.returns
returns c = registry_laws
