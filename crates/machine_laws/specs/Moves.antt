-- The machine of scripted federates, and its moves.
use Rattle.std.specs.Prelude.{ℕ, ◌+◌, ◌<◌, ◌≡◌, ◌≢◌, ◌⊎◌, Bool, true, false, if◌then◌else◌, List, [], ◌∷◌, ◌++◌, length, slice_index_or, slice_set, Option, Some, None, option_map, option_to_list, unwrap_or, map}
use Rattle.helics_time.specs.Settings.{Terms}
use Rattle.iteration_rules.specs.declared.Mode.{Mode}
use Rattle.hel_lists.specs.Members.{IsIn}
use Rattle.time_state.specs.Fed.{enter_refusal, request_refusal, is_live}
use Rattle.time_state.specs.declared.Cause.TheVariants.{Failed}
use Rattle.time_state.specs.declared.Phase.{Phase}
use Rattle.time_state.specs.declared.Phase.TheVariants.{Initializing, Entering, Running, Waiting, Ended}
use Rattle.machine_laws.specs.declared.logs.LogEntry.{LogEntry}
use Rattle.machine_laws.specs.declared.refusal.CallRefusal.{CallRefusal}
use Rattle.machine_laws.specs.declared.refusal.Unlawful.{Unlawful}
use Rattle.machine_laws.specs.Refusal.{refusal_by_time, refusal_word}
use Rattle.machine_laws.specs.Plan.{Call, Plan, IsPlan}
use Rattle.machine_laws.specs.Machine.{State, Member, Step, member_at, failed_or_died, refusal_of, make_refusal, finish_refusal, end_refusal, after, opening, KeepsTime, IsRun, logs_of}
use Rattle.machine_laws.specs.Machine.Step.{begin, enter, make, request, grant, finish, fail}
use Rattle.machine_laws.specs.Laws.{Keeps, WaitForEachOther}

-- what a federate calls
pub data Doing : Type 0 where
  enters : Doing
  makes : Call → Doing
  requests : ℕ → Mode → Doing
  finishes : Doing
  fails : List ℕ → Doing

-- the step by which it does so
abbrev pub step_by : ℕ → Doing → Step
step_by f enters = enter f
step_by f (makes call) = make f call
step_by f (requests time mode) = request f time mode
step_by f finishes = finish f
step_by f (fails text) = fail f text

-- what each federate calls next: it knows how many calls it has made, and all that it was granted
abbrev pub Scripts : Type 0
Scripts = ℕ → ℕ → List LogEntry → Doing

-- a state of the machine and of its scripts
pub record Play : Type 0 where
  pub state : State
  -- how many calls each federate has made
  pub calls : List ℕ

abbrev pub calls_of : Play → ℕ → ℕ
calls_of w f = slice_index_or w.calls f 0

-- why a call of a script is refused
abbrev pub doing_refusal : Plan → ℕ → Member → Doing → Option CallRefusal
doing_refusal p f m enters = option_map refusal_by_time (enter_refusal m.time)
doing_refusal p f m (makes call) = make_refusal p f m call
doing_refusal p f m (requests time mode) = option_map refusal_by_time (request_refusal m.time)
doing_refusal p f m finishes = finish_refusal m
doing_refusal p f m (fails text) = end_refusal m.time.phase

-- a federate whose call is refused fails with the refusal's name
abbrev pub or_failure : ℕ → Step → Option CallRefusal → Step
or_failure f step None = step
or_failure f step (Some refusal) = fail f (refusal_word refusal)

-- the call of a script, or the failure in its place
abbrev pub call_by : Plan → ℕ → Member → Doing → Step
call_by p f m doing = or_failure f (step_by f doing) (doing_refusal p f m doing)

-- a federate in this phase calls
abbrev pub is_calling : Phase → Bool
is_calling Initializing = true
is_calling Running = true
is_calling phase = false

-- what a federate in this phase does: its call, or the grant that it waits for, or nothing
abbrev pub in_turn : Phase → Option Step → Option Step → Option Step
in_turn Initializing call grants = call
in_turn Running call grants = call
in_turn Entering call grants = grants
in_turn Waiting call grants = grants
in_turn phase call grants = None

abbrev pub if_lawful : Option Unlawful → Step → Option Step
if_lawful None step = Some step
if_lawful (Some refusal) step = None

-- the step that a federate would take, if it may take one
abbrev pub next_step : Plan → Scripts → Play → ℕ → Option Step
next_step p scripts w f =
    in_turn (member_at w.state f).time.phase
    (Some (call_by p f (member_at w.state f) (scripts f (calls_of w f) (member_at w.state f).log)))
    (if_lawful (refusal_of p w.state (grant f)) (grant f))

abbrev pub is_call : Step → Bool
is_call (grant f) = false
is_call step = true

-- a grant is no call, so it leaves the count
abbrev pub moved : Plan → Play → ℕ → Step → Play
moved p w f step = record { state = after p w.state step; calls = if is_call step then slice_set w.calls f (calls_of w f + 1) else w.calls }

-- f moves, if it may
abbrev pub move : Plan → Scripts → ℕ → Play → Option Play
move p scripts f w = option_map (moved p w f) (next_step p scripts w f)

-- the times in a script are times
abbrev pub KeepsTimes : Scripts → Type 0
KeepsTimes scripts = (f calls : ℕ) (log : List LogEntry) → KeepsTime (step_by f (scripts f calls log))

-- Two moves of different federates commute.
abbrev pub Diamond : Type 0
Diamond = (p : Plan) (scripts : Scripts) (w a b : Play) (f g : ℕ) → IsPlan p → KeepsTimes scripts → Keeps p w.state → f ≢ g →
    move p scripts f w ≡ Some a → move p scripts g w ≡ Some b →
    (c : Play) × (move p scripts g a ≡ Some c) × (move p scripts f b ≡ Some c)

-- these federates move, one after another
abbrev pub Moves : Plan → Scripts → Play → List ℕ → Play → Type 0
Moves p scripts w [] end = end ≡ w
Moves p scripts w (f ∷ fs) end = (next : Play) × (move p scripts f w ≡ Some next) × Moves p scripts next fs end

-- no federate may move
abbrev pub IsStill : Plan → Scripts → Play → Type 0
IsStill p scripts w = (f : ℕ) → move p scripts f w ≡ None

-- All runs of scripts that go on until no federate may move end alike.
abbrev pub OneEnd : Type 0
OneEnd = (p : Plan) (scripts : Scripts) (w a b : Play) (fs gs : List ℕ) → IsPlan p → KeepsTimes scripts → Keeps p w.state →
    Moves p scripts w fs a → IsStill p scripts a → Moves p scripts w gs b → IsStill p scripts b → a ≡ b

-- the machine has begun, and no federate has called
abbrev pub opening_play : Plan → Play
opening_play p = record { state = after p (opening p) begin; calls = map (λ (s : Terms). 0) p.settings }

-- One answer: runs of scripts that go on until no federate may move end alike, logs among it.
abbrev pub OneAnswer : Type 0
OneAnswer = (p : Plan) (scripts : Scripts) (a b : Play) (fs gs : List ℕ) → IsPlan p → KeepsTimes scripts →
    Moves p scripts (opening_play p) fs a → IsStill p scripts a → Moves p scripts (opening_play p) gs b → IsStill p scripts b → a ≡ b

-- the steps that these federates take, one after another; one that may not move takes none
abbrev pub steps_of_moves : Plan → Scripts → Play → List ℕ → List Step
steps_of_moves p scripts w [] = []
steps_of_moves p scripts w (f ∷ fs) = option_to_list (next_step p scripts w f) ++ steps_of_moves p scripts (unwrap_or (move p scripts f w) w) fs

-- The steps of moves, one of each, are a run to the same end, so the laws of runs hold of them.
abbrev pub MovesRun : Type 0
MovesRun = (p : Plan) (scripts : Scripts) (w end : Play) (fs : List ℕ) → IsPlan p → KeepsTimes scripts → Keeps p w.state → Moves p scripts w fs end →
    IsRun p w.state (steps_of_moves p scripts w fs) end.state × (length (steps_of_moves p scripts w fs) ≡ length fs)

-- the least federate that may move moves, until none may
abbrev pub IsReference : Plan → Scripts → Play → List ℕ → Play → Type 0
IsReference p scripts w [] end = (end ≡ w) × IsStill p scripts w
IsReference p scripts w (f ∷ fs) end =
    (next : Play) × (move p scripts f w ≡ Some next) × ((g : ℕ) → g < f → move p scripts g w ≡ None) × IsReference p scripts next fs end

-- Each run of scripts that goes on until no federate may move has the logs of the reference run.
abbrev pub ReferenceLogs : Type 0
ReferenceLogs = (p : Plan) (scripts : Scripts) (a b : Play) (fs gs : List ℕ) → IsPlan p → KeepsTimes scripts →
    IsReference p scripts (opening_play p) fs a → Moves p scripts (opening_play p) gs b → IsStill p scripts b → logs_of b.state ≡ logs_of a.state

-- Where runs of scripts end at a play in which no federate may move, every order of moves ends there, in as many moves:
-- what has moved so far leaves as many moves less.
abbrev pub OrdersEnd : Type 0
OrdersEnd = (p : Plan) (scripts : Scripts) (w v end : Play) (fs gs : List ℕ) → IsPlan p → KeepsTimes scripts → Keeps p w.state →
    Moves p scripts w fs end → IsStill p scripts end → Moves p scripts w gs v →
    (rest : List ℕ) × Moves p scripts v rest end × (length gs + length rest ≡ length fs)

-- And the reference run is one of these orders.
abbrev pub ReferenceEnds : Type 0
ReferenceEnds = (p : Plan) (scripts : Scripts) (w end : Play) (gs : List ℕ) → IsPlan p → KeepsTimes scripts → Keeps p w.state →
    Moves p scripts w gs end → IsStill p scripts end → (fs : List ℕ) × IsReference p scripts w fs end × (length fs ≡ length gs)

-- no federate has failed or died
abbrev pub NoneFailed : State → Type 0
NoneFailed s = (f : ℕ) → f < length s.members → failed_or_died (member_at s f).time.phase ≡ false

-- Where runs of scripts end, none failed and one lives, two that wait for current updates wait for each other.
abbrev pub StuckWaits : Type 0
StuckWaits = (p : Plan) (scripts : Scripts) (end : Play) (fs : List ℕ) (f : ℕ) → IsPlan p → KeepsTimes scripts → ((a b : ℕ) → IsIn a (p.ancestors b) → a < length p.settings) →
    Moves p scripts (opening_play p) fs end → IsStill p scripts end → NoneFailed end.state →
    f < length end.state.members → is_live (member_at end.state f).time.phase ≡ true → ((a b : ℕ) → WaitForEachOther p a b → ⊥) → ⊥

abbrev pub is_failed : Phase → Bool
is_failed (Ended Failed) = true
is_failed phase = false

-- a federate has failed
abbrev pub failed_in : Play → ℕ → Bool
failed_in w f = is_failed (member_at w.state f).time.phase

-- the least federate that may move moves, until one has failed by its move or none may; who failed, if any
abbrev pub IsUpToFailure : Plan → Scripts → Play → List ℕ → Option ℕ → Play → Type 0
IsUpToFailure p scripts w [] failed end = (end ≡ w) × (failed ≡ None) × IsStill p scripts w
IsUpToFailure p scripts w (f ∷ fs) failed end =
    (next : Play) × (move p scripts f w ≡ Some next) × ((g : ℕ) → g < f → move p scripts g w ≡ None)
    × (((failed_in next f ≡ true) × (fs ≡ []) × (failed ≡ Some f) × (end ≡ next))
    ⊎ ((failed_in next f ≡ false) × IsUpToFailure p scripts next fs failed end))

-- A run up to the first failure is one of moves. Where none failed it is the reference run, and where a federate lives at its end,
-- two that wait for current updates wait for each other.
pub record UpToFailure (p : Plan) (scripts : Scripts) : Type 0 where
  pub moves : (w end : Play) (fs : List ℕ) (failed : Option ℕ) → IsUpToFailure p scripts w fs failed end → Moves p scripts w fs end
  pub reference : (w end : Play) (fs : List ℕ) → IsUpToFailure p scripts w fs None end → IsReference p scripts w fs end
  pub waits : (end : Play) (fs : List ℕ) (f : ℕ) → IsPlan p → KeepsTimes scripts → ((a b : ℕ) → IsIn a (p.ancestors b) → a < length p.settings) →
      IsUpToFailure p scripts (opening_play p) fs None end → f < length end.state.members → is_live (member_at end.state f).time.phase ≡ true →
      ((a b : ℕ) → WaitForEachOther p a b → ⊥) → ⊥

abbrev pub StopsAtFailure : Type 0
StopsAtFailure = (p : Plan) (scripts : Scripts) → UpToFailure p scripts
