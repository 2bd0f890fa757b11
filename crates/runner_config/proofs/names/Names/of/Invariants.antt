use Rattle.std.proofs.Common.{◌≡◌, [], drop, take}
use Rattle.runner_config.specs.Names.{are_new}
use Rattle.runner_config.proofs.names.Names.of.Given as goal

-- the names so far are the first of the texts, and the others decide whether all are different
abbrev pub invariant-loop-text : goal.invariant-loop-text
invariant-loop-text l =
    record {
      first : l.names ≡ take l.text-index l.texts;
      rest : are_new l.names (drop l.text-index l.texts) ≡ are_new [] l.texts;
    }
