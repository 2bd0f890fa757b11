use Rattle.dependency_paths.proofs.Ancestry.{ancestor_laws}
use Rattle.dependency_paths.proofs.laws.ancestor_laws.Goals as goal

pub returns : goal.returns
returns c = ancestor_laws
