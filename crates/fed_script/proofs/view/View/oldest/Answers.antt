-- The inbox at the endpoint's place, and none past the last.
use Rattle.std.proofs.Common.{◌≡◌, refl, ap, sym, ◌∙◌, Some, None}
use Rattle.std.specs.Prelude.{slice_get}
use Rattle.std.specs.Option.{option_copied}
use Rattle.fed_script.proofs.Inboxes.{letters_past, letters_within}
use Rattle.fed_script.proofs.view.View.oldest.Goals as goal

pub returns-in-None : goal.returns-in-None
returns-in-None c =
    let none : slice_get c.self.inside.inboxes c.args.endpoint ≡ None = ap (λ n. slice_get c.self.inside.inboxes n) (sym c.from.ensures) ∙ sym c.get.ensures ∙ ap option_copied c.in-None.is in
    rw (← c.self.view_is) (rw (letters_past c.self.inside.inboxes c.args.endpoint none) refl)

pub returns-in-Some : goal.returns-in-Some
returns-in-Some c =
    let some : slice_get c.self.inside.inboxes c.args.endpoint ≡ Some c.in-Some.inbox.now = ap (λ n. slice_get c.self.inside.inboxes n) (sym c.from.ensures) ∙ sym c.get.ensures ∙ ap option_copied c.in-Some.is in
    rw (← c.self.view_is) (rw (letters_within c.self.inside.inboxes c.args.endpoint c.in-Some.inbox.now some) c.first.ensures)
