use Rattle.std.proofs.Common.{◌∙◌, ap}
use Rattle.federation_plan.specs.Interfaces.{endpoint_of}
use Rattle.federation_plan.specs.Plan.{Federation}
use Rattle.federation_plan.proofs.Filtering.{known_end}
use Rattle.federation_plan.proofs.plan.Plan.endpoint.Goals as goal

pub returns-clause-is : goal.returns-clause-is
returns-clause-is c = known_end _ c.args.name.now _ (
    c.copied.ensures ∙ c.get.ensures.value ∙ c.self.invariant.1.endpoints_are c.args.name.now
    ∙ ap (λ (p : Federation). endpoint_of p.federates c.args.name.now) c.self.view_is
    )
