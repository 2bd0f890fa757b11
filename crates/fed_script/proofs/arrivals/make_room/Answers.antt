-- One inbox more has room, and all letters stay.
use Rattle.std.proofs.Common.{◌≤◌, ℕ, ap, sym, subst, ◌∙◌, get_or, arith, inl, inr}
use Rattle.std.specs.Prelude.{slice_set}
use Rattle.std.proofs.lemmas.Bool.{cases_eq}
use Rattle.std.proofs.lemmas.List.{length-set, get_or-set_same, get_or-set_other}
use Rattle.endpoint_messages.specs.Mail.{Mail}
use Rattle.fed_script.specs.Room.{no_mail, count_for}
use Rattle.fed_script.proofs.Inboxes.{letters_kept}
use Rattle.fed_script.proofs.arrivals.make_room.Goals as goal

pub returns-in_err-make_room-clause-same : goal.returns-in_err-make_room-clause-same
returns-in_err-make_room-clause-same c =
    let at = c.at_mut.ensures.value no_mail in
    letters_kept c.loop-endpoint.inboxes c.loop-endpoint.endpoint c.make_room.new.self (c.make_room.ensures.letters ∙ ap (λ (m : Mail). m.letters) (sym at)) ∙ c.loop-endpoint.invariant.same

pub loop-endpoint-preserved : goal.loop-endpoint-preserved
loop-endpoint-preserved c =
    let mails = c.loop-endpoint.inboxes in
    let n = c.loop-endpoint.endpoint in
    let m = c.make_room.new.self in
    let at = c.at_mut.ensures.value no_mail in
    record {
      same = letters_kept mails n m (c.make_room.ensures.letters ∙ ap (λ (x : Mail). x.letters) (sym at)) ∙ c.loop-endpoint.invariant.same;
      length = length-set mails n m ∙ c.loop-endpoint.invariant.length;
      room = λ (e : ℕ) below.
          let P : ℕ → Type 0 = λ k. count_for k c.args.letters.now ≤ (get_or (slice_set mails n m) k no_mail).spare in
          elim (cases_eq e n) [
            | inl here ↦ subst P (sym here) (rw (get_or-set_same mails n m no_mail (omega arith)) (rw (← c.count_for-count.ensures) c.in_ok-make_room.ensures.ok))
            | inr other ↦ rw (get_or-set_other mails n e m no_mail other) (c.loop-endpoint.invariant.room e (omega arith))
          ];
    }
