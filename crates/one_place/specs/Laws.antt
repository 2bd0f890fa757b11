-- Laws of the machine's steps and of reference runs.
use Rattle.std.specs.Prelude.{ℕ, ◌≡◌, Option, None, List, [], ◌∷◌, map}
use Rattle.hel_lists.specs.Members.{Each}
use Rattle.machine_laws.specs.declared.logs.FedLog.{FedLog}
use Rattle.machine_laws.specs.Machine.{Step, KeepsTime, IsRun, opening, logs_of}
use Rattle.machine_laws.specs.Machine.Step.{begin}
use Rattle.machine_laws.specs.Moves.{Play, Moves, IsStill, opening_play, steps_of_moves}
use Rattle.fed_script.specs.Script.{Course, IsCourse}
use Rattle.federation_plan.specs.Plan.{Federation, IsFederation}
use Rattle.federation_plan.specs.Wires.{wires_of}
use Rattle.one_place.specs.declared.step.MachineStep.{MachineStep}
use Rattle.one_place.specs.Step.{step_of}
use Rattle.one_place.specs.Reference.{plays_of, HasReferenceLogs}
use Rattle.one_place.specs.Orders.{HasLogsUpToFailure}
use Rattle.one_place.specs.Machine.{Stage, refusal_at, stage_after}

-- the machine after steps that were accepted one after another
abbrev pub Accepts : Stage → List MachineStep → Stage → Type 0
Accepts s [] end = end ≡ s
Accepts s (step ∷ steps) end = (refusal_at s step ≡ None) × KeepsTime (step_of step) × Accepts (stage_after s step) steps end

-- Steps that a machine accepted from its opening on are a run of its plan, so all laws of runs hold of it.
abbrev pub StepsRun : Type 0
StepsRun = (plan : Federation) (steps : List MachineStep) (end : Stage) → Accepts (record { plan = plan; state = opening (wires_of plan) }) steps end →
    IsRun (wires_of plan) (opening (wires_of plan)) (map step_of steps) end.state

-- the steps of a reference run: it begins, and takes those of the moves
abbrev pub reference_steps : Federation → List Course → List ℕ → List Step
reference_steps plan scripts feds = begin ∷ steps_of_moves (wires_of plan) (plays_of plan scripts) (opening_play (wires_of plan)) feds

-- The reference logs of scripts are those at the end of the run of these steps, so all laws of runs hold of them too.
abbrev pub ReferenceRuns : Type 0
ReferenceRuns = (plan : Federation) (scripts : List Course) (logs : List FedLog) → IsFederation plan → Each IsCourse scripts → (has : HasReferenceLogs plan scripts logs) →
    IsRun (wires_of plan) (opening (wires_of plan)) (reference_steps plan scripts has.feds) has.end.state × (logs ≡ logs_of has.end.state)

-- The steps of a run up to a failure are a run too.
abbrev pub FailureRuns : Type 0
FailureRuns = (plan : Federation) (scripts : List Course) (failed : Option ℕ) (logs : List FedLog) → IsFederation plan → Each IsCourse scripts →
    (has : HasLogsUpToFailure plan scripts failed logs) →
    IsRun (wires_of plan) (opening (wires_of plan)) (reference_steps plan scripts has.feds) has.end.state × (logs ≡ logs_of has.end.state)

-- One answer: however the federates take turns, once none may move their logs are the reference logs.
abbrev pub OrdersAgree : Type 0
OrdersAgree = (plan : Federation) (scripts : List Course) (end : Play) (feds : List ℕ) → IsFederation plan → Each IsCourse scripts →
    Moves (wires_of plan) (plays_of plan scripts) (opening_play (wires_of plan)) feds end → IsStill (wires_of plan) (plays_of plan scripts) end →
    HasReferenceLogs plan scripts (logs_of end.state)
