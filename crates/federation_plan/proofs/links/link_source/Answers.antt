use Rattle.std.proofs.Common.{sym, ap, ◌∙◌, List, ℕ}
use Rattle.std.specs.HashMap.{get_by_text}
use Rattle.federation_plan.proofs.links.link_source.Goals as goal

pub end_at-requires : goal.end_at-requires
end_at-requires c = c.requires.places c.in-Some.at.now (sym (c.in-Some.ensures.value ∙ ap (λ (k : List ℕ). get_by_text c.args.endpoints.now k) c.as_str.ensures))

pub link-requires-clause-from : goal.link-requires-clause-from
link-requires-clause-from c = c.requires.known c.as_str.result.now c.in-Some.at.now (sym c.in-Some.ensures.value)
