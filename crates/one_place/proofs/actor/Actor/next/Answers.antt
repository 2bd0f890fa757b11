use Rattle.std.proofs.Common.{◌∙◌, sym, ap, zero, []}
use Rattle.time_state.specs.declared.Phase.{Phase}
use Rattle.machine_laws.specs.Moves.{step_by}
use Rattle.one_place.specs.Run.{going}
use Rattle.one_place.proofs.Scripts.{initializing, first_call, entering_call, initial_time}
use Rattle.one_place.proofs.actor.Actor.next.Goals as goal

pub step_for-requires-in-Some : goal.step_for-requires-in-Some
step_for-requires-in-Some c = initial_time c.args.self.now.script.initial c.in-Some.action c.requires.rules.initial (sym c.in_ok-action-in_default.ensures.value ∙ c.in-Some.is)

pub returns-in-Some-clause-step : goal.returns-in-Some-clause-step
returns-in-Some-clause-step c = λ names.
    let at = initializing c.args.phase c.requires.calls c.in_default.not-Running in
    let script = c.args.self.now.script in
    c.step_for-in-Some.ensures.step
    ∙ ap (step_by c.args.f) (sym (first_call names script.initial script.words c.args.self.now.view c.in-Some.action (sym c.in_ok-action-in_default.ensures.value ∙ c.in-Some.is)))
    ∙ ap (λ (q : Phase). step_by c.args.f (going names q c.args.self.now [] zero)) (sym at)

pub returns-in-None-clause-step : goal.returns-in-None-clause-step
returns-in-None-clause-step c = λ names.
    let at = initializing c.args.phase c.requires.calls c.in_default.not-Running in
    let script = c.args.self.now.script in
    ap (step_by c.args.f) (sym (entering_call names script.initial script.words c.args.self.now.view (sym c.in_ok-action-in_default.ensures.value ∙ c.in-None.is)))
    ∙ ap (λ (q : Phase). step_by c.args.f (going names q c.args.self.now [] zero)) (sym at)
