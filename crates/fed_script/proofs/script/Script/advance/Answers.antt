-- What is left keeps its times.
use Rattle.std.proofs.Common.{◌≡◌, ap, sym, subst, ◌∙◌}
use Rattle.fed_script.specs.Round.{left_of}
use Rattle.fed_script.specs.Script.{KeepTimes, behind_first, words_after}
use Rattle.fed_script.proofs.Passing.{keep_times_after}
use Rattle.fed_script.proofs.script.Script.advance.Goals as goal

pub invariant_of-self : goal.invariant_of-self
invariant_of-self c =
    let words = left_of c.self.inside.rounds in
    let after : left_of c.pass_given.new.rounds ≡ words_after words c.args.view.now = c.pass_given.ensures.words ∙ ap behind_first c.pass_idle.ensures in
    record {
      initial = c.self.invariant.initial;
      times = subst KeepTimes (sym after) (keep_times_after words c.args.view.now c.self.invariant.times);
    }
