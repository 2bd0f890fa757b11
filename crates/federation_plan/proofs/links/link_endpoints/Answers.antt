use Rattle.std.proofs.Common.{◌<◌, ◌∙◌, ℕ, sym, subst}
use Rattle.federation_plan.proofs.links.link_endpoints.Goals as goal

pub link_endpoint-requires-clause-ends : goal.link_endpoint-requires-clause-ends
link_endpoint-requires-clause-ends c = λ r is. subst (λ (n : ℕ). r.fed < n) (sym c.loop-index.invariant.count) (c.requires.ends _ r (sym c.end_at-to.ensures ∙ is))
