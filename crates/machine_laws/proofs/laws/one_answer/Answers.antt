use Rattle.machine_laws.proofs.OneEnd.{one_answer}
use Rattle.machine_laws.proofs.laws.one_answer.Goals as goal

pub returns : goal.returns
returns c = one_answer
