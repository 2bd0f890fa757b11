-- The inbox at the endpoint's place loses its oldest letter.
use Rattle.std.proofs.Common.{ap, sym, ◌∙◌, List, [], drop, get_or}
use Rattle.std.specs.Prelude.{slice_set}
use Rattle.endpoint_messages.specs.declared.Letter.{Letter}
use Rattle.endpoint_messages.specs.Mail.{Mail}
use Rattle.fed_script.specs.View.{Sight}
use Rattle.fed_script.specs.Room.{letters_of, no_mail}
use Rattle.fed_script.proofs.Inboxes.{letters_taken}
use Rattle.fed_script.proofs.view.View.take_letter.Goals as goal

pub returns-then-place-len : goal.returns-then-place-len
returns-then-place-len c =
    let a = c.self.inside in
    let n = c.from-place.result in
    let old = ap (λ (m : Mail). drop 1 m.letters) (sym (c.at_mut.ensures.value no_mail)) in
    let seen : List (List Letter) → Sight = λ ls. record { time = a.time; inputs = a.inputs; inboxes = ls } in
    rw (← c.self.view_is)
    (ap seen (letters_taken a.inboxes n c.take_oldest.new.inbox (c.take_oldest.ensures ∙ old)
    ∙ ap (λ k. slice_set (letters_of a.inboxes) k (drop 1 (get_or (letters_of a.inboxes) k []))) c.from-place.ensures))
