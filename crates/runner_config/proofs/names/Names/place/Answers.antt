use Rattle.std.proofs.Common.{◌∙◌, ℕ, List, ap}
use Rattle.runner_config.specs.Names.{place_of}
use Rattle.runner_config.proofs.NameTables.{place_by_key}
use Rattle.runner_config.proofs.names.Names.place.Goals as goal

pub returns-clause-place : goal.returns-clause-place
returns-clause-place c =
    c.get_index_of.ensures.index
    ∙ place_by_key c.args.name.now c.self.inside.names.keys
    ∙ ap (λ (ns : List (List ℕ)). place_of ns c.args.name.now) c.self.view_is
