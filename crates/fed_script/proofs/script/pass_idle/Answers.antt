-- A word that gives something is the first of those that do.
use Rattle.std.proofs.Common.{ap, sym, ◌∙◌}
use Rattle.fed_script.specs.Round.{left_of}
use Rattle.fed_script.specs.Script.{given_from}
use Rattle.fed_script.proofs.Passing.{given_first}
use Rattle.fed_script.proofs.script.pass_idle.Goals as goal

pub returns-then-gives : goal.returns-then-gives
returns-then-gives c =
    let given = given_first c.in-Some.running.rest c.first.result.now c.args.view.now c.first.ensures (sym c.gives.ensures ∙ c.if-gives.true) in
    given ∙ ap (λ o. given_from (left_of o) c.args.view.now) (sym c.in-Some.is) ∙ c.loop-rounds.invariant
