use Rattle.std.proofs.Common.{◌≡◌, ◌∙◌, ℕ, Some, None, sym, ap}
use Rattle.machine_laws.specs.declared.refusal.Unlawful.{Unlawful}
use Rattle.machine_laws.specs.declared.refusal.CallRefusal.{CallRefusal}
use Rattle.std.specs.Prelude.{Option}
use Rattle.machine_laws.specs.Plan.{Plan}
use Rattle.machine_laws.specs.Refusal.{refusal_word}
use Rattle.machine_laws.specs.Machine.{State, member_at, refusal_of}
use Rattle.machine_laws.specs.Machine.Step.{fail}
use Rattle.machine_laws.specs.Moves.{Doing, step_by, or_failure, doing_refusal, call_by}
use Rattle.one_place.specs.declared.step.MachineStep.{MachineStep}
use Rattle.one_place.specs.Step.{step_of}
use Rattle.one_place.specs.Machine.{refusal_at}
use Rattle.one_place.specs.Run.{wires_at}
use Rattle.one_place.proofs.Scripts.{call_refused, refused_as_call, refused_with, may_fail, if_ok_then}
use Rattle.machine_laws.proofs.Moves.{calling_known}
use Rattle.one_place.proofs.run.or_failure.Goals as goal

pub unreachable-requires : goal.unreachable-requires
unreachable-requires c =
    let p : Plan = wires_at c.args.machine.now in
    let s : State = c.args.machine.now.state in
    let f : ℕ = c.args.f in
    let doing : Doing = c.requires.step.0 in
    refused_as_call (doing_refusal p f (member_at s f) doing) c.in-Some.unlawful
    (sym c.in-Some.is ∙ c.refusal.ensures ∙ ap (refusal_of p s) c.requires.step.1 ∙ call_refused p s f doing (calling_known s f c.requires.calling)) c.in_default.not-Refused

pub returns-in-Refused-clause-step : goal.returns-in-Refused-clause-step
returns-in-Refused-clause-step c =
    let p : Plan = wires_at c.args.machine.now in
    let s : State = c.args.machine.now.state in
    let f : ℕ = c.args.f in
    if_ok_then c.failure.result (λ (taken : MachineStep). step_of taken ≡ fail f (refusal_word c.in-Refused.refusal))
    (λ (taken : MachineStep). (doing : Doing) → step_of c.args.step ≡ step_by f doing → step_of taken ≡ call_by p f (member_at s f) doing)
    (λ taken is doing step.
    (let refused : doing_refusal p f (member_at s f) doing ≡ Some c.in-Refused.refusal =
    refused_with (doing_refusal p f (member_at s f) doing) c.in-Refused.refusal
    (sym (call_refused p s f doing (calling_known s f c.requires.calling)) ∙ ap (refusal_of p s) (sym step) ∙ sym c.refusal.ensures ∙ c.in-Some.is ∙ ap (λ (u : Unlawful). Some u) c.in-Refused.is) in
    is ∙ ap (λ (r : Option CallRefusal). or_failure f (step_by f doing) r) (sym refused)))
    c.failure.ensures

pub returns-in-Refused-clause-lawful : goal.returns-in-Refused-clause-lawful
returns-in-Refused-clause-lawful c =
    let p : Plan = wires_at c.args.machine.now in
    let s : State = c.args.machine.now.state in
    let f : ℕ = c.args.f in
    if_ok_then c.failure.result (λ (taken : MachineStep). step_of taken ≡ fail f (refusal_word c.in-Refused.refusal))
    (λ (taken : MachineStep). refusal_at c.args.machine.now taken ≡ None)
    (λ taken is. ap (refusal_of p s) is ∙ may_fail p s f (refusal_word c.in-Refused.refusal) c.requires.calling) c.failure.ensures
