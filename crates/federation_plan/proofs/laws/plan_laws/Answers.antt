use Rattle.federation_plan.proofs.Wired.{plan_laws as all_laws}
use Rattle.federation_plan.proofs.laws.plan_laws.Goals as goal

pub returns : goal.returns
returns c = all_laws
