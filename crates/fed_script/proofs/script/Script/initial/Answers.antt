-- An action at the place is one that is left.
use Rattle.std.proofs.Common.{◌≡◌, ap, sym, ◌∙◌, List, drop, Some}
use Rattle.std.specs.Prelude.{slice_get}
use Rattle.std.specs.Option.{option_copied}
use Rattle.std.proofs.lemmas.Option.{none-some}
use Rattle.fed_script.specs.declared.action.Action.{Action}
use Rattle.fed_script.proofs.Lists.{first_behind}
use Rattle.fed_script.proofs.script.Script.initial.Goals as goal

pub returns-in_err-copy-in-Some-clause-none : goal.returns-in_err-copy-in-Some-clause-none
returns-in_err-copy-in-Some-clause-none c =
    let s = c.self.inside in
    let some : slice_get (drop s.initial_place s.initial) 0 ≡ Some c.in-Some.action.now = first_behind s.initial_place s.initial ∙ sym c.get.ensures ∙ ap option_copied c.in-Some.is in
    rw (← c.self.view_is) (λ none. absurd (none-some c.in-Some.action.now (ap (λ (left : List Action). slice_get left 0) (sym none) ∙ some)))

pub returns-in_ok-copy-in-Some-clause-none : goal.returns-in_ok-copy-in-Some-clause-none
returns-in_ok-copy-in-Some-clause-none c =
    let s = c.self.inside in
    let some : slice_get (drop s.initial_place s.initial) 0 ≡ Some c.in-Some.action.now = first_behind s.initial_place s.initial ∙ sym c.get.ensures ∙ ap option_copied c.in-Some.is in
    rw (← c.self.view_is) (λ none. absurd (none-some c.in-Some.action.now (ap (λ (left : List Action). slice_get left 0) (sym none) ∙ some)))
