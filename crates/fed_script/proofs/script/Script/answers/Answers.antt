use Rattle.std.proofs.Common.{◌≡◌, ap, sym, ◌∙◌, Some, None}
use Rattle.std.specs.Prelude.{slice_get}
use Rattle.std.specs.Option.{option_copied}
use Rattle.fed_script.specs.Round.{left_of}
use Rattle.fed_script.specs.Script.{given_from}
use Rattle.fed_script.proofs.Passing.{find_given, answers_none, answers_some}
use Rattle.fed_script.proofs.script.Script.answers.Goals as goal

pub returns-in-None : goal.returns-in-None
returns-in-None c =
    let words = left_of c.self.inside.rounds in
    let v = c.args.view.now in
    let none : slice_get (given_from words v) 0 ≡ None = sym (find_given words v) ∙ sym c.first_given.ensures ∙ ap option_copied c.in-None.is in
    rw (← c.self.view_is) (sym (answers_none words v none))

pub returns-in-Some : goal.returns-in-Some
returns-in-Some c =
    let words = left_of c.self.inside.rounds in
    let v = c.args.view.now in
    let some : slice_get (given_from words v) 0 ≡ Some c.in-Some.word.now = sym (find_given words v) ∙ sym c.first_given.ensures ∙ ap option_copied c.in-Some.is in
    rw (← c.self.view_is) (c.is_echo.ensures ∙ sym (answers_some words v c.in-Some.word.now some))
