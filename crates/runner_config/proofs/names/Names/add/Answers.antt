use Rattle.std.proofs.Common.{◌∙◌, ℕ, List, ap, not, map, string_bytes}
use Rattle.runner_config.specs.Names.{stands, with_name}
use Rattle.runner_config.proofs.NameTables.{stands_by_key, insert_by_key}
use Rattle.runner_config.proofs.names.Names.add.Goals as goal

pub returns-clause-new : goal.returns-clause-new
returns-clause-new c =
    c.in_ok-is_new.ensures.added
    ∙ ap not (stands_by_key c.args.name c.self.inside.names.keys ∙ ap (λ (ns : List (List ℕ)). stands ns (string_bytes c.args.name)) c.self.view_is)

pub returns-clause-names : goal.returns-clause-names
returns-clause-names c =
    ap (map string_bytes) c.in_ok-is_new.ensures.keys
    ∙ insert_by_key c.self.inside.names.keys c.args.name
    ∙ ap (λ (ns : List (List ℕ)). with_name ns (string_bytes c.args.name)) c.self.view_is
