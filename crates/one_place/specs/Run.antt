-- The reference run as the code makes it: a machine, and for each federate what is left of its script and what it sees.
use Rattle.std.specs.Prelude.{ℕ, zero, ◌+◌, ◌<◌, ◌≡◌, Bool, true, false, ◌||◌, is_none, List, [], ◌∷◌, ◌++◌, length, drop, slice_index_or, if◌then◌else◌}
use Rattle.hel_lists.specs.Members.{Each}
use Rattle.hel_values.specs.declared.EndRef.{EndRef}
use Rattle.interface_names.specs.declared.records.FederateRecord.{FederateRecord}
use Rattle.federation_plan.specs.Interfaces.{blank_federate}
use Rattle.federation_plan.specs.Plan.{Federation}
use Rattle.federation_plan.specs.Wires.{wires_of}
use Rattle.time_state.specs.Fed.{is_live, grant_of}
use Rattle.time_state.specs.declared.Phase.{Phase}
use Rattle.time_state.specs.declared.Phase.TheVariants.{Entering, Running, Waiting}
use Rattle.fed_script.specs.Script.{Course, IsCourse, words_after, view_after}
use Rattle.machine_laws.specs.declared.logs.LogEntry.{LogEntry}
use Rattle.machine_laws.specs.Plan.{Plan}
use Rattle.machine_laws.specs.Machine.{Member, State, Step, member_at, dues_to, handed_in, refusal_of}
use Rattle.machine_laws.specs.Machine.Step.{grant}
use Rattle.machine_laws.specs.Moves.{Doing, Scripts, Play, call_by, opening_play, is_calling}
use Rattle.one_place.specs.declared.actor.Actor.{Actor}
use Rattle.one_place.specs.Machine.{Stage}
use Rattle.one_place.specs.Reference.{Way, names_in, acts, call_of, read_on, taken_over, first_sight}

abbrev pub wires_at : Stage → Plan
wires_at s = wires_of s.plan

abbrev pub names_at : Stage → EndRef → List ℕ
names_at s = names_in s.plan

abbrev pub play_of : Stage → List ℕ → Play
play_of s calls = record { state = s.state; calls = calls }

-- a federate may act: it calls, or its grant is lawful
abbrev pub may_move : Stage → ℕ → Bool
may_move s f = is_calling (member_at s.state f).time.phase || is_none (refusal_of (wires_at s) s.state (grant f))

-- it may act, and no lesser federate may
pub record IsNextToMove (s : Stage) (f : ℕ) : Type 0 where
  pub moves : may_move s f ≡ true
  pub least : (g : ℕ) → g < f → may_move s g ≡ false

-- what a federate in this phase does after so many more calls, over what it will be granted
abbrev pub going : (EndRef → List ℕ) → Phase → Actor → List LogEntry → ℕ → Doing
going names Running a more k = acts names a.script.words a.view more k
going names Entering a more k = let reading = read_on names a.view more in acts names a.script.words reading.view reading.rest k
going names Waiting a more k = let reading = read_on names a.view more in acts names a.script.words reading.view reading.rest k
going names phase a more k = call_of names a.script.initial a.script.words a.view more k

-- what is left once the next call has passed
abbrev pub passed : Phase → Actor → Actor
passed Running a = record a { script = record a.script { words = words_after a.script.words a.view }; view = view_after a.script.words a.view }
passed phase a = record a { script = record a.script { initial = drop 1 a.script.initial } }

-- the step by which a federate makes its next call
abbrev pub calling_step : Stage → ℕ → Actor → Step
calling_step s f a = call_by (wires_at s) f (member_at s.state f) (going (names_at s) (member_at s.state f).time.phase a [] zero)

-- what a grant writes into a federate's log
abbrev pub entry_in : State → ℕ → LogEntry
entry_in s f = record { grant = grant_of (member_at s f).time (dues_to s.items f); items = handed_in s f }

-- the step that a federate takes where it may act, and what is left then
abbrev pub step_at : Stage → ℕ → Actor → Step
step_at s f a = if is_calling (member_at s.state f).time.phase then calling_step s f a else grant f

abbrev pub actor_after : Stage → ℕ → Actor → Actor
actor_after s f a =
    if is_calling (member_at s.state f).time.phase then passed (member_at s.state f).time.phase a
    else record a { view = taken_over (names_at s) a.view (entry_in s.state f) }

-- what every actor keeps
pub record IsActor (a : Actor) : Type 0 where
  pub rules : IsCourse a.script

pub record AreActors (s : State) (actors : List Actor) : Type 0 where
  pub each : length actors ≡ length s.members
  pub all : Each IsActor actors

-- where a federate has made so many calls, what is left of its script is what it does from here on
abbrev pub Goes : (EndRef → List ℕ) → Scripts → ℕ → Member → ℕ → Actor → Type 0
Goes names plays f m calls a = is_live m.time.phase ≡ true → (more : List LogEntry) (k : ℕ) → plays f (calls + k) (m.log ++ more) ≡ going names m.time.phase a more k

abbrev pub actor_at : List Actor → ℕ → Actor
actor_at actors f = slice_index_or actors f (record { script = record { initial = []; words = [] }; view = first_sight blank_federate })

pub record AreFollowing (plays : Scripts) (s : Stage) (calls : List ℕ) (actors : List Actor) : Type 0 where
  pub counts : length calls ≡ length s.state.members
  pub go : (f : ℕ) → f < length s.state.members → Goes (names_at s) plays f (member_at s.state f) (slice_index_or calls f 0) (actor_at actors f)

-- at the beginning each federate has its whole script before it
abbrev pub first_actors : List FederateRecord → List Course → List Actor
first_actors [] scripts = []
first_actors (fed ∷ feds) [] = []
first_actors (fed ∷ feds) (script ∷ scripts) = (record { script = script; view = first_sight fed }) ∷ first_actors feds scripts

-- a run in such a way, whoever moves
abbrev pub Played : Way → Plan → Scripts → Play → Play → Type 0
Played way p plays w end = (feds : List ℕ) × way p plays w feds end

-- from the one stage such a run goes on to the other: what ends well from there ends well from here
pub record Leads (from to : Way) (s : Stage) (actors : List Actor) (t : Stage) (rest : List Actor) : Type 0 where
  pub plan : t.plan ≡ s.plan
  pub ready : AreActors t.state rest
  pub more : (plays : Scripts) (calls : List ℕ) → AreFollowing plays s calls actors →
      (now : List ℕ) × AreFollowing plays t now rest
      × ((end : Play) → Played to (wires_at t) plays (play_of t now) end → Played from (wires_at s) plays (play_of s calls) end)

-- the machine of a plan once it has begun
abbrev pub begun_stage : Federation → Stage
begun_stage plan = record { plan = plan; state = (opening_play (wires_of plan)).state }
