-- Accepted steps are runs of plans, and so are reference runs.
use Rattle.std.proofs.Common.{ℕ, zero, suc, List, [], ◌∷◌, inl, inr, refl, ap}
use Rattle.std.specs.Prelude.{map}
use Rattle.hel_lists.specs.Members.{Each}
use Rattle.hel_values.specs.declared.EndRef.{EndRef}
use Rattle.machine_laws.specs.Plan.{Plan as Wires, IsPlan}
use Rattle.machine_laws.specs.Machine.{KeepsTime, IsRun, opening}
use Rattle.machine_laws.specs.Machine.Step.{begin}
use Rattle.machine_laws.specs.Moves.{Play, Scripts, KeepsTimes as KeepTimesAll, Moves, IsReference, opening_play, step_by}
use Rattle.machine_laws.proofs.Keep.{runs_keep}
use Rattle.machine_laws.proofs.Moves.{moves_run}
use Rattle.one_place.specs.declared.step.MachineStep.{MachineStep}
use Rattle.federation_plan.specs.Plan.{Federation}
use Rattle.federation_plan.specs.Wires.{wires_of}
use Rattle.federation_plan.proofs.Wired.{plans_are}
use Rattle.one_place.specs.Step.{step_of}
use Rattle.one_place.specs.Machine.{Stage, stage_after}
use Rattle.fed_script.specs.declared.action.Action.{Action}
use Rattle.fed_script.specs.declared.action.Action.TheVariants.{Publish, Send, Request, Finish, Fail}
use Rattle.fed_script.specs.declared.word.Word.{Word}
use Rattle.fed_script.specs.View.{Sight}
use Rattle.fed_script.specs.Script.{Course, IsInitial, IsCourse, KeepTimes, HasTime, next_action, words_after, view_after}
use Rattle.fed_script.proofs.Passing.{next_has_time, keep_times_after}
use Rattle.machine_laws.specs.declared.logs.LogEntry.{LogEntry}
use Rattle.one_place.specs.Reference.{names_in, doing_of, course_at, read_on, after_action, acts, call_of, plays_of}
use Rattle.one_place.specs.Laws.{Accepts, StepsRun, ReferenceRuns}

accepted_run : (s : Stage) (steps : List MachineStep) (end : Stage) → Accepts s steps end → IsRun (wires_of s.plan) s.state (map step_of steps) end.state
accepted_run s [] end is = ap (λ (t : Stage). t.state) is
accepted_run s (step ∷ steps) end accepts = ((accepts.0, accepts.1), accepted_run (stage_after s step) steps end accepts.2)

pub steps_run : StepsRun
steps_run plan steps end accepts = accepted_run _ steps end accepts

-- each call of a script keeps its time
action_time : (f : ℕ) (action : Action) → HasTime action → KeepsTime (step_by f (doing_of action))
action_time f (Publish publication value) has = tt
action_time f (Send endpoint destination payload) has = tt
action_time f (Request time mode) has = has
action_time f Finish has = tt
action_time f (Fail text) has = tt

acts_time : (names : EndRef → List ℕ) (f : ℕ) (words : List Word) (v : Sight) (log : List LogEntry) (k : ℕ) → KeepTimes words → KeepsTime (step_by f (acts names words v log k))
acts_time names f words v log zero keep = action_time f (next_action words v) (next_has_time words v keep)
acts_time names f words v log (suc k) keep =
    let reading = after_action names (next_action words v) (view_after words v) log in
    acts_time names f (words_after words v) reading.view reading.rest k (keep_times_after words v keep)

call_time : (names : EndRef → List ℕ) (f : ℕ) (initial : List Action) (words : List Word) (v : Sight) (log : List LogEntry) (k : ℕ) → IsInitial initial → KeepTimes words →
    KeepsTime (step_by f (call_of names initial words v log k))
call_time names f [] words v log zero is keep = tt
call_time names f [] words v log (suc k) is keep = let reading = read_on names v log in acts_time names f words reading.view reading.rest k keep
call_time names f (Publish publication value ∷ initial) words v log zero is keep = tt
call_time names f (Publish publication value ∷ initial) words v log (suc k) is keep = call_time names f initial words v log k is keep
call_time names f (Send endpoint destination payload ∷ initial) words v log zero is keep = tt
call_time names f (Send endpoint destination payload ∷ initial) words v log (suc k) is keep = call_time names f initial words v log k is keep
call_time names f (Request time mode ∷ initial) words v log k is keep = absurd is
call_time names f (Finish ∷ initial) words v log k is keep = absurd is
call_time names f (Fail text ∷ initial) words v log k is keep = absurd is

pub times_of : (plan : Federation) (scripts : List Course) → Each IsCourse scripts → KeepTimesAll (plays_of plan scripts)
times_of plan scripts each f k log = let is = at scripts f each in call_time (names_in plan) f (course_at scripts f).initial (course_at scripts f).words _ log k is.initial is.times
  where
    at : (cs : List Course) (g : ℕ) → Each IsCourse cs → IsCourse (course_at cs g)
    at [] g each = record { initial = tt; times = tt }
    at (c ∷ cs) zero each = each c (inl refl)
    at (c ∷ cs) (suc g) each = at cs g (λ x among. each x (inr among))

reference_moves : (p : Wires) (scripts : Scripts) (w end : Play) (fs : List ℕ) → IsReference p scripts w fs end → Moves p scripts w fs end
reference_moves p scripts w end [] run = run.0
reference_moves p scripts w end (f ∷ fs) run = (run.0, run.1, reference_moves p scripts run.0 end fs run.3)

pub reference_runs : ReferenceRuns
reference_runs plan scripts logs is each has =
    let p : Wires = wires_of plan in
    let is_plan : IsPlan p = plans_are plan is in
    let w : Play = opening_play p in
    let began : IsRun p (opening p) (begin ∷ []) w.state = ((refl, tt), refl) in
    let run = moves_run p (plays_of plan scripts) w has.end has.feds is_plan (times_of plan scripts each) (runs_keep p (begin ∷ []) w.state is_plan began)
    (reference_moves p (plays_of plan scripts) w has.end has.feds has.run) in
    (((refl, tt), run.0), has.logs_are)
