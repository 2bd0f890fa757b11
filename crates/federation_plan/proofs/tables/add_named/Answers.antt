use Rattle.std.proofs.Common.{sym, ◌∙◌, ap, List, ℕ}
use Rattle.std.specs.HashMap.{get_by_text}
use Rattle.federation_plan.proofs.tables.add_named.Goals as goal

pub add-requires : goal.add-requires
add-requires c = c.requires c.in-Some.at.now (sym (c.in-Some.ensures.value ∙ ap (λ (k : List ℕ). get_by_text c.args.names.now k) c.as_str.ensures))
