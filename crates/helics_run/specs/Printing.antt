-- What is printed of the files at a path: of `check` the plan, of `sim` the logs of its run up to the first failure.
use Rattle.std.specs.Prelude.{ℕ, ◌≡◌, Bool, true, false, if◌then◌else◌, List, [], Option, Some, None, Ok, Err}
use Rattle.std.specs.List.{list_any}
use Rattle.interface_names.specs.declared.records.FederateRecord.{FederateRecord}
use Rattle.machine_laws.specs.declared.logs.FedLog.{FedLog}
use Rattle.machine_laws.specs.declared.logs.LogEnd.{LogEnd}
use Rattle.machine_laws.specs.declared.logs.LogEnd.TheVariants.{Ended, FailedText, Open}
use Rattle.federation_plan.specs.Plan.{Federation, IsFederation}
use Rattle.hel_lists.specs.Members.{Each}
use Rattle.fed_script.specs.Script.{Course, IsCourse}
use Rattle.one_place.specs.Orders.{HasLogsUpToFailure}
use Rattle.log_text.specs.Text.{logs_text}
use Rattle.log_text.specs.Check.{IsCheckText}
use Rattle.command_words.specs.declared.Verb.{Verb}
use Rattle.command_words.specs.declared.Verb.TheVariants.{Check, Sim}
use Rattle.scenario_reading.specs.Order.{Reads, AsksFor}
use Rattle.scenario_reading.specs.Fitting.{Scene}
use Rattle.scenario_reading.specs.Reading.{setting_at, scenario_at}
use Rattle.scenario_reading.specs.declared.refusal.Refusal.{Refusal}
use Rattle.helics_run.specs.declared.status.Status.{Status}
use Rattle.helics_run.specs.declared.status.Status.TheVariants.{Done, Halted, Stuck}
use Rattle.helics_run.specs.declared.printing.Printed.{Printed}
use Rattle.helics_run.specs.Lines.{error_line, stuck, halted_by}

-- what the files tell, where they tell it
abbrev pub Content : Type 0
Content = List ℕ → Option (List ℕ)

-- the plan of what was read
pub record IsPlanOf {S : Type 0} (s : Scene S) (plan : Federation) : Type 0 where
  pub federates : plan.federates ≡ s.federates
  pub tree : plan.tree ≡ s.tree
  pub is : IsFederation plan

-- ---- the run

-- a federate is live at the end of its log
abbrev pub is_live_end : LogEnd → Bool
is_live_end (Ended cause) = false
is_live_end (FailedText text) = false
is_live_end (Open phase) = true

abbrev pub ends_live : List FedLog → Bool
ends_live logs = list_any (λ (l : FedLog). is_live_end l.end) logs

-- a run that no failure ended is done, or stuck where a federate is live
abbrev pub status_of : Option ℕ → List FedLog → Status
status_of (Some f) logs = Halted
status_of None logs = if ends_live logs then Stuck else Done

abbrev pub error_of : List FederateRecord → Option ℕ → List FedLog → List ℕ
error_of feds (Some f) logs = error_line (halted_by feds logs f)
error_of feds None logs = if ends_live logs then error_line stuck else []

-- the logs of a run, and how it ended
abbrev pub run_printed : List FederateRecord → Option ℕ → List FedLog → Printed
run_printed feds failed logs = record { status = status_of failed logs; out = logs_text feds logs; err = error_of feds failed logs }

-- what is printed of the run of these scripts
pub record IsRunOf (plan : Federation) (scripts : List Course) (p : Printed) : Type 0 where
  -- the federate whose failure ended it
  pub failed : Option ℕ
  pub logs : List FedLog
  pub run : HasLogsUpToFailure plan scripts failed logs
  pub printed : p ≡ run_printed plan.federates failed logs

-- ---- the plan

-- what is printed of a plan: its text
pub record IsTextOf (plan : Federation) (p : Printed) : Type 0 where
  pub status : p.status ≡ Done
  pub out : IsCheckText plan p.out
  pub err : p.err ≡ []

-- ---- by the files

pub record IsCheckOf (content : Content) (file : List ℕ) (p : Printed) : Type 0 where
  pub setting : Scene (Option Course)
  pub read : Reads content (setting_at file) (Ok setting)
  pub plan : Federation
  pub is : IsPlanOf setting plan
  pub text : IsTextOf plan p

pub record IsSimOf (content : Content) (file : List ℕ) (p : Printed) : Type 0 where
  pub scenario : Scene Course
  pub read : Reads content (scenario_at file) (Ok scenario)
  pub plan : Federation
  pub is : IsPlanOf scenario plan
  -- each script keeps the rules of scripts
  pub rules : Each IsCourse scenario.scripts
  pub run : IsRunOf plan scenario.scripts p

abbrev pub PrintsBy : Content → Verb → List ℕ → Printed → Type 0
PrintsBy content Check file p = IsCheckOf content file p
PrintsBy content Sim file p = IsSimOf content file p

-- a refusal is read in its place
abbrev pub RefusesBy : Content → Verb → List ℕ → Refusal → Type 0
RefusesBy content Check file refusal = Reads content (setting_at file) (Err refusal)
RefusesBy content Sim file refusal = Reads content (scenario_at file) (Err refusal)

-- the order of reading comes to ask for a path
abbrev pub AsksBy : Content → Verb → List ℕ → List ℕ → Type 0
AsksBy content Check file path = AsksFor content (setting_at file) path
AsksBy content Sim file path = AsksFor content (scenario_at file) path
