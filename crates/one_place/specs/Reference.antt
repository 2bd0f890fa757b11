-- The reference run of a scenario, and its logs.
use Rattle.std.specs.Prelude.{ℕ, zero, suc, ◌≡◌, List, [], ◌∷◌, length, replicate, slice_index_or}
use Rattle.hel_values.specs.declared.EndRef.{EndRef}
use Rattle.value_updates.specs.Input.{opening}
use Rattle.fed_script.specs.declared.action.Action.{Action}
use Rattle.fed_script.specs.declared.action.Action.TheVariants.{Publish, Send, Request, Finish, Fail}
use Rattle.fed_script.specs.declared.word.Word.{Word}
use Rattle.fed_script.specs.View.{Sight, granted}
use Rattle.fed_script.specs.Script.{Course, next_action, words_after, view_after}
use Rattle.interface_names.specs.declared.records.FederateRecord.{FederateRecord}
use Rattle.federation_plan.specs.Interfaces.{end_name, endpoint_at, federate_at}
use Rattle.federation_plan.specs.Plan.{Federation}
use Rattle.federation_plan.specs.Wires.{wires_of}
use Rattle.machine_laws.specs.declared.logs.FedLog.{FedLog}
use Rattle.machine_laws.specs.declared.logs.LogEntry.{LogEntry}
use Rattle.machine_laws.specs.Plan.{Plan}
use Rattle.machine_laws.specs.Plan.Call.{publish, send}
use Rattle.machine_laws.specs.Machine.{logs_of}
use Rattle.machine_laws.specs.Moves.{Doing, Scripts, Play, opening_play, IsReference}
use Rattle.machine_laws.specs.Moves.Doing.{enters, makes, requests, finishes, fails}

-- what a federate does by an action of its script
abbrev pub doing_of : Action → Doing
doing_of (Publish publication value) = makes (publish publication value)
doing_of (Send endpoint destination payload) = makes (send endpoint destination payload)
doing_of (Request time mode) = requests time mode
doing_of Finish = finishes
doing_of (Fail text) = fails text

-- what the federation calls endpoints
abbrev pub names_in : Federation → EndRef → List ℕ
names_in p e = end_name (endpoint_at p.federates e)

-- what a federate sees after a grant
abbrev pub taken_over : (EndRef → List ℕ) → Sight → LogEntry → Sight
taken_over names v e = granted names v e.grant.time e.items

-- what a federate sees once it has read a part of its log, and the entries that it hasn't read
pub record Reading : Type 0 where
  pub view : Sight
  pub rest : List LogEntry

-- it reads the next entry
abbrev pub read_on : (EndRef → List ℕ) → Sight → List LogEntry → Reading
read_on names v [] = record { view = v; rest = [] }
read_on names v (e ∷ log) = record { view = taken_over names v e; rest = log }

-- a request is answered by a grant, which is the next entry; no other action is
abbrev pub after_action : (EndRef → List ℕ) → Action → Sight → List LogEntry → Reading
after_action names (Request time mode) v log = read_on names v log
after_action names action v log = record { view = v; rest = log }

-- what a federate that runs does once it has taken so many actions of these words
abbrev pub acts : (EndRef → List ℕ) → List Word → Sight → List LogEntry → ℕ → Doing
acts names words v log zero = doing_of (next_action words v)
acts names words v log (suc k) =
    let reading = after_action names (next_action words v) (view_after words v) log in
    acts names (words_after words v) reading.view reading.rest k

-- what a federate does after so many calls: its initial actions come first, then it enters, and after its entry come its words
abbrev pub call_of : (EndRef → List ℕ) → List Action → List Word → Sight → List LogEntry → ℕ → Doing
call_of names (action ∷ initial) words v log zero = doing_of action
call_of names (action ∷ initial) words v log (suc k) = call_of names initial words v log k
call_of names [] words v log zero = enters
call_of names [] words v log (suc k) = let reading = read_on names v log in acts names words reading.view reading.rest k

-- what a federate sees before its first grant
abbrev pub first_sight : FederateRecord → Sight
first_sight fed = record { time = 0; inputs = replicate (length fed.inputs) opening; inboxes = replicate (length fed.endpoints) [] }

abbrev pub course_at : List Course → ℕ → Course
course_at scripts f = slice_index_or scripts f (record { initial = []; words = [] })

-- each federate makes the calls of its script over what its grants show
abbrev pub plays_of : Federation → List Course → Scripts
plays_of plan scripts f calls log =
    call_of (names_in plan) (course_at scripts f).initial (course_at scripts f).words (first_sight (federate_at plan.federates f)) log calls

-- how federates take turns from one play to another, by their numbers in order
abbrev pub Way : Type 1
Way = Plan → Scripts → Play → List ℕ → Play → Type 0

-- the logs of these scripts: the machine begins, and then federates take turns in such a way
pub record HasLogs (way : Way) (plan : Federation) (scripts : List Course) (logs : List FedLog) : Type 0 where
  pub feds : List ℕ
  pub end : Play
  pub run : way (wires_of plan) (plays_of plan scripts) (opening_play (wires_of plan)) feds end
  pub logs_are : logs ≡ logs_of end.state

-- those of the reference run: the least federate that may move moves, until none may
abbrev pub HasReferenceLogs : Federation → List Course → List FedLog → Type 0
HasReferenceLogs plan scripts logs = HasLogs IsReference plan scripts logs
