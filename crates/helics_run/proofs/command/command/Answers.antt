use Rattle.std.proofs.Common.{◌∙◌, sym, inl, inr, refl, subst, List, ℕ}
use Rattle.hel_outside.specs.Faults.{Rose, Gains}
use Rattle.helics_run.specs.Command.{texts}
use Rattle.helics_run.specs.Answers.{CountsFaults, MayTell}
use Rattle.helics_run.proofs.Once.{print_made, refusal_made, file_verb, refusal_verb, decided_by, not_both, told_stands, part_told, where_ok}
use Rattle.helics_run.proofs.Stuck.{stuck_prints, whole_prints, sink_prints, sink_not_stuck}
use Rattle.helics_run.proofs.command.command.Goals as goal

-- what the files tell decides
pub returns-in-Ok-clause-decided : goal.returns-in-Ok-clause-decided
returns-in-Ok-clause-decided g c = λ tells q prints.
    inr (decided_by _ _ c.in-Ok.printed q _ tells (print_made _ c.args.words.now.items _ c.in-Ok.printed c.deref.ensures.value c.in-Ok.ensures.answers) prints
    (told_stands _ _ _ _ _ _ _ _ c.tell-in-Ok.ensures refl))

pub returns-in-Ok-clause-refuses : goal.returns-in-Ok-clause-refuses
returns-in-Ok-clause-refuses g c = λ tells r refuses.
    absurd (not_both _ _ c.in-Ok.printed r tells (print_made _ c.args.words.now.items _ c.in-Ok.printed c.deref.ensures.value c.in-Ok.ensures.answers) refuses)

-- what is stuck has two that wait for each other
pub returns-in-Ok-clause-waits : goal.returns-in-Ok-clause-waits
returns-in-Ok-clause-waits g c = λ stuck.
    let made = print_made _ c.args.words.now.items _ c.in-Ok.printed c.deref.ensures.value c.in-Ok.ensures.answers in
    elim c.tell-in-Ok.ensures [
      | inl written ↦ stuck_prints _ _ c.in-Ok.printed made (sym written.0 ∙ stuck)
      | inr failed ↦ absurd (sink_not_stuck (sym failed.0 ∙ stuck))
    ]

pub returns-in-Ok-clause-whole : goal.returns-in-Ok-clause-whole
returns-in-Ok-clause-whole g c = λ asks quiet none quiet_out quiet_err lives no_pair.
    let made = print_made _ c.args.words.now.items _ c.in-Ok.printed c.deref.ensures.value c.in-Ok.ensures.answers in
    elim c.tell-in-Ok.ensures [
      | inl written ↦ inl (written.0 ∙ whole_prints _ _ c.in-Ok.printed made (lives c.in-Ok.printed made) no_pair)
      | inr failed ↦ absurd (quiet_err failed.1)
    ]

pub returns-in-Ok-refused_line-clause-whole : goal.returns-in-Ok-refused_line-clause-whole
returns-in-Ok-refused_line-clause-whole g c = λ asks quiet none quiet_out quiet_err lives no_pair.
    absurd (none c.in-Err-Refused.refusal (refusal_made _ c.args.words.now.items _ _ c.in-Err-Refused.refusal c.deref.ensures.value c.in-Err-Refused.field-0-is c.in-Err-Refused.ensures.answers))

-- all was written, and then the line wasn't
pub returns-in-Ok-clause-part_of_out : goal.returns-in-Ok-clause-part_of_out
returns-in-Ok-clause-part_of_out g c = λ fault.
    let written = where_ok _ _ (sym c.is_err.ensures.value ∙ c.if-is_err.false) c.write_all.ensures.ok in
    let made = print_made _ c.args.words.now.items _ c.in-Ok.printed c.deref.ensures.value c.in-Ok.ensures.answers in
    let all = subst (λ (bytes : List ℕ). Gains (g.O.Sink.written c.args.out.now) (g.O.Sink.written c.write_all.new.sink) bytes) (c.as_bytes.ensures.value ∙ c.as_str.ensures) written in
    elim c.tell-in-Ok.ensures [
      | inl told ↦ absurd (sink_prints _ _ c.in-Ok.printed made (sym told.0 ∙ fault))
      | inr failed ↦ inr (c.in-Ok.printed, (made, inr (all, failed.1)))
    ]

pub returns-in-Ok-refused_line-clause-decided : goal.returns-in-Ok-refused_line-clause-decided
returns-in-Ok-refused_line-clause-decided g c = λ tells p prints.
    absurd (not_both _ _ p c.in-Err-Refused.refusal tells prints (refusal_made _ c.args.words.now.items _ _ c.in-Err-Refused.refusal c.deref.ensures.value c.in-Err-Refused.field-0-is c.in-Err-Refused.ensures.answers))

pub returns-in-Ok-refused_line-clause-complete : goal.returns-in-Ok-refused_line-clause-complete
returns-in-Ok-refused_line-clause-complete g c = λ asks quiet none quiet_out quiet_err.
    absurd (none c.in-Err-Refused.refusal (refusal_made _ c.args.words.now.items _ _ c.in-Err-Refused.refusal c.deref.ensures.value c.in-Err-Refused.field-0-is c.in-Err-Refused.ensures.answers))

-- without memory for a line it is told that there was none
pub returns-in-Err-FileFault-clause-part_of_err : goal.returns-in-Err-FileFault-clause-part_of_err
returns-in-Err-FileFault-clause-part_of_err g c = λ rose.
    let verb = file_verb _ c.args.words.now.items _ _ _ c.deref.ensures.value c.in-Err-FileFault.field-0-is c.in-Err-FileFault.ensures.answers in
    part_told _ _ _ _ _ _ _ (MayTell (g.F.Files.content c.args.files.now) (texts c.args.words.now.items) (Rose (g.O.Sink.faults c.args.out.now) (g.O.Sink.faults c.args.out.now)) (λ a. CountsFaults a (g.F.Files.faults c.args.files.now) (g.F.Files.faults c.answer.new.files) (g.F.Files.failed_path c.answer.new.files))) c.tell-in-Err.ensures (inr (inl (refl, verb))) rose

pub returns-in-Err-Refused-clause-part_of_err : goal.returns-in-Err-Refused-clause-part_of_err
returns-in-Err-Refused-clause-part_of_err g c = λ rose.
    let refuses = refusal_made _ c.args.words.now.items _ _ c.in-Err-Refused.refusal c.deref.ensures.value c.in-Err-Refused.field-0-is c.in-Err-Refused.ensures.answers in
    part_told _ _ _ _ _ _ _ (MayTell (g.F.Files.content c.args.files.now) (texts c.args.words.now.items) (Rose (g.O.Sink.faults c.args.out.now) (g.O.Sink.faults c.args.out.now)) (λ a. CountsFaults a (g.F.Files.faults c.args.files.now) (g.F.Files.faults c.answer.new.files) (g.F.Files.failed_path c.answer.new.files))) c.tell-in-Err-refused_line.ensures (inr (inl (refl, refusal_verb _ _ _ refuses))) rose
