-- One letter more is delivered, and there is room for the others.
use Rattle.std.proofs.Common.{◌≡◌, ℕ, ap, sym, subst, ◌∙◌, List, ◌∷◌}
use Rattle.std.specs.Vec.Iter.{into_iter_items}
use Rattle.endpoint_messages.specs.declared.Letter.{Letter}
use Rattle.endpoint_messages.specs.Mail.{Mail}
use Rattle.fed_script.specs.View.{delivered}
use Rattle.fed_script.specs.Room.{letters_of, HasRoom, with_letter}
use Rattle.fed_script.proofs.Inboxes.{letters_with, has_room_after}
use Rattle.fed_script.proofs.arrivals.deliver_all.Goals as goal

pub loop-endpoint-preserved : goal.loop-endpoint-preserved
loop-endpoint-preserved c =
    let mails = c.loop-endpoint.inboxes in
    let n = c.in-Some.endpoint in
    let letter = c.in-Some.letter in
    let rest = into_iter_items c.next.new.self in
    let first = c.in-Some.ensures.steps.0 in
    let room : HasRoom mails ((n, letter) ∷ rest) = subst (λ (ls : List (ℕ × Letter)). HasRoom mails ls) first c.loop-endpoint.invariant.room in
    let is : c.deliver.new.inboxes ≡ with_letter mails n letter = c.deliver.ensures ∙ ap (λ k. with_letter mails k letter) c.from.ensures in
    let more : delivered (letters_of (with_letter mails n letter)) rest ≡ delivered (letters_of mails) ((n, letter) ∷ rest) = ap (λ (ls : List (List Letter)). delivered ls rest) (letters_with mails n letter) in
    record {
      room = subst (λ (ms : List Mail). HasRoom ms rest) (sym is) (has_room_after mails n letter rest room);
      same = ap (λ (ms : List Mail). delivered (letters_of ms) rest) is ∙ more ∙ ap (λ (ls : List (ℕ × Letter)). delivered (letters_of mails) ls) (sym first) ∙ c.loop-endpoint.invariant.same;
    }
