use Rattle.std.proofs.Common.{Some, string_bytes, sym, ◌∙◌, ap, List, ℕ}
use Rattle.std.specs.Prelude.{is_some}
use Rattle.std.specs.HashMap.{get_by_text}
use Rattle.std.proofs.lemmas.Map.Text.{hash_map_updates_text}
use Rattle.federation_plan.proofs.Named.{text_put}
use Rattle.federation_plan.proofs.names.put.Goals as goal

pub returns-in_ok-insert : goal.returns-in_ok-insert
returns-in_ok-insert c = text_put (get_by_text c.args.names.now) (get_by_text c.insert.new.self) (string_bytes c.args.name) c.args.at (sym (c.if-not-contains_key.ensures ∙ ap (λ (k : List ℕ). is_some (get_by_text c.args.names.now k)) c.as_str.ensures.value))
    (hash_map_updates_text (string_bytes c.args.name) c.args.names.now c.insert.new.self (Some c.args.at) c.in_ok-insert.ensures.updates)
