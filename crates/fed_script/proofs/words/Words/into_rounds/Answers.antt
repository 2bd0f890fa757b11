-- One round of words is the words.
use Rattle.std.proofs.Common.{subst, ◌∙◌}
use Rattle.fed_script.specs.Rounds.{unrolled}
use Rattle.fed_script.specs.Script.{KeepTimes}
use Rattle.fed_script.proofs.Parts.{one_copy}
use Rattle.fed_script.proofs.words.Words.into_rounds.Goals as goal

pub returns-else-is_empty-clause-words : goal.returns-else-is_empty-clause-words
returns-else-is_empty-clause-words c =
    c.of.ensures.rest ∙ c.of.ensures.all ∙ one_copy (unrolled c.self.inside.parts.items) ∙ c.self.view_is

pub returns-else-is_empty-clause-times : goal.returns-else-is_empty-clause-times
returns-else-is_empty-clause-times c = subst KeepTimes c.self.view_is c.self.invariant.times
