use Rattle.tree_facts.proofs.Cuts.{cut_facts}
use Rattle.tree_facts.proofs.laws.cut_facts.Goals as goal

pub returns : goal.returns
returns c = cut_facts
