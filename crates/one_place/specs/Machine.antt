-- The machine: a plan and a state.
use Rattle.std.specs.Prelude.{◌≡◌, ◌≢◌, length, Option, Some, None, Result, OnOk, OnErr, IfErr}
use Rattle.machine_laws.specs.Machine.{State, Step, refusal_of, after}
use Rattle.machine_laws.specs.Machine.Step.{make, grant}
use Rattle.machine_laws.specs.declared.refusal.Unlawful.{Unlawful}
use Rattle.machine_laws.specs.declared.refusal.Unlawful.TheVariants.{OutOfMemory}
use Rattle.one_place.specs.declared.step.MachineStep.{MachineStep}
use Rattle.federation_plan.specs.Plan.{Federation, IsFederation}
use Rattle.federation_plan.specs.Wires.{wires_of}
use Rattle.one_place.specs.Step.{step_of}

pub record Stage : Type 0 where
  pub plan : Federation
  pub state : State

-- a machine has the federates of its plan
pub record IsStage (s : Stage) : Type 0 where
  pub plan : IsFederation s.plan
  pub each : length s.state.members ≡ length s.plan.federates

-- the first condition of a step that fails
abbrev pub refusal_at : Stage → MachineStep → Option Unlawful
refusal_at s step = refusal_of (wires_of s.plan) s.state (step_of step)

-- the machine after a lawful step
abbrev pub stage_after : Stage → MachineStep → Stage
stage_after s step = record s { state = after (wires_of s.plan) s.state (step_of step) }

-- the steps that take memory: a publish, a send and a grant
abbrev pub MayWant : Step → Type 0
MayWant (make f call) = Unit {0}
MayWant (grant f) = Unit {0}
MayWant step = ⊥

-- what a refused step tells: memory wants only for a lawful one
abbrev pub TellsRefusal : Option Unlawful → Unlawful → Type 0
TellsRefusal refusal e = (e ≢ OutOfMemory → refusal ≡ Some e) × (e ≡ OutOfMemory → refusal ≡ None)

-- the step was made where it is lawful, and else refused by the first condition that fails; or memory was wanting
pub record Steps {T : Type 0} (old : Stage) (step : MachineStep) (result : Result T Unlawful) (new : Stage) : Type 0 where
  pub lawful : OnOk result (refusal_at old step ≡ None)
  pub done : OnOk result (new ≡ stage_after old step)
  pub refused : IfErr result (TellsRefusal (refusal_at old step))
  pub unchanged : OnErr result (new ≡ old)
