use Rattle.value_updates.proofs.Applied.{input_laws}
use Rattle.value_updates.proofs.input_laws.Goals as goal

pub returns : goal.returns
returns c = input_laws
