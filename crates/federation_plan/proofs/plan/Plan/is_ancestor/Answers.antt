use Rattle.federation_plan.proofs.Waiting.{contains_is}
use Rattle.federation_plan.proofs.plan.Plan.is_ancestor.Goals as goal

pub returns : goal.returns
returns c = contains_is _ _ c.args.a c.contains.result c.ancestors.ensures c.contains.ensures.value
