-- The first word that gives something is asked for its action.
use Rattle.std.proofs.Common.{◌≡◌, ap, sym, subst, ◌∙◌, Some, None}
use Rattle.std.specs.Prelude.{slice_get, unwrap_or}
use Rattle.std.specs.Option.{option_copied}
use Rattle.fed_script.specs.declared.action.Action.TheVariants.{Finish as finishes}
use Rattle.fed_script.specs.Round.{left_of}
use Rattle.fed_script.specs.Script.{HasTime, given_from, next_action}
use Rattle.fed_script.proofs.Passing.{find_given, next_none, next_some, next_has_time}
use Rattle.fed_script.proofs.script.Script.next.Goals as goal

pub returns-in-None-clause-value : goal.returns-in-None-clause-value
returns-in-None-clause-value c =
    let words = left_of c.self.inside.rounds in
    let v = c.args.view.now in
    let none : slice_get (given_from words v) 0 ≡ None = sym (find_given words v) ∙ sym c.first_given.ensures ∙ ap option_copied c.in-None.is in
    rw (← c.self.view_is) (sym (next_none words v none))

pub returns-in_ok-action-in-Some-clause-value : goal.returns-in_ok-action-in-Some-clause-value
returns-in_ok-action-in-Some-clause-value c =
    let words = left_of c.self.inside.rounds in
    let v = c.args.view.now in
    let some : slice_get (given_from words v) 0 ≡ Some c.in-Some.word.now = sym (find_given words v) ∙ sym c.first_given.ensures ∙ ap option_copied c.in-Some.is in
    let is : c.unwrap_or.result ≡ next_action words v = c.unwrap_or.ensures ∙ ap (λ o. unwrap_or o finishes) c.in_ok-action-in-Some.ensures ∙ sym (next_some words v c.in-Some.word.now some) in
    rw (← c.self.view_is) is

pub returns-in_ok-action-in-Some-clause-time : goal.returns-in_ok-action-in-Some-clause-time
returns-in_ok-action-in-Some-clause-time c =
    let words = left_of c.self.inside.rounds in
    let v = c.args.view.now in
    let some : slice_get (given_from words v) 0 ≡ Some c.in-Some.word.now = sym (find_given words v) ∙ sym c.first_given.ensures ∙ ap option_copied c.in-Some.is in
    let is : c.unwrap_or.result ≡ next_action words v = c.unwrap_or.ensures ∙ ap (λ o. unwrap_or o finishes) c.in_ok-action-in-Some.ensures ∙ sym (next_some words v c.in-Some.word.now some) in
    subst HasTime (sym is) (next_has_time words v c.self.invariant.times)
