-- The machine in one place: its state, which steps are lawful, and what they do.
use Rattle.std.specs.Prelude.{ℕ, suc, ◌+◌, ◌^◌, ◌≤◌, ◌≡◌, Bool, true, false, not, nat_lt, nat_le, ◌==◌, ◌&&◌, if◌then◌else◌, List, [], ◌∷◌, ◌++◌, map, length, slice_index_or, slice_set, Option, Some, None, option_map}
use Rattle.std.specs.List.{filter}
use Rattle.std.specs.Option.{option_or}
use Rattle.helics_time.specs.Time.{max_time}
use Rattle.helics_time.specs.Stamp.{At, before}
use Rattle.helics_time.specs.Settings.{Terms}
use Rattle.due_queue.specs.Item.{Parcel, is_to, is_due}
use Rattle.due_queue.specs.Order.{insert_all}
use Rattle.iteration_rules.specs.declared.Mode.{Mode}
use Rattle.time_state.specs.Fed.{Fed, created, requested, granted, ended, event_of, cut_of, grant_of, enter_refusal, request_refusal, is_asking, is_live}
use Rattle.time_state.specs.declared.Cause.{Cause}
use Rattle.time_state.specs.declared.Cause.TheVariants.{Finished, Failed, Died, Halted}
use Rattle.time_state.specs.declared.Phase.{Phase}
use Rattle.time_state.specs.declared.Phase.TheVariants.{Created, Initializing, Entering, Running, Ended}
use Rattle.machine_laws.specs.declared.logs.FedLog.{FedLog}
use Rattle.machine_laws.specs.declared.logs.LogEnd.{LogEnd}
use Rattle.machine_laws.specs.declared.logs.LogEnd.TheVariants.{Ended as LogEnded, FailedText, Open}
use Rattle.machine_laws.specs.declared.logs.LogEntry.{LogEntry}
use Rattle.machine_laws.specs.declared.refusal.CallRefusal.{CallRefusal}
use Rattle.machine_laws.specs.declared.refusal.CallRefusal.TheVariants.{Ended as HasEnded, WrongPhase, PastHorizon, MicroLimit, CountLimit}
use Rattle.machine_laws.specs.declared.refusal.Unlawful.{Unlawful}
use Rattle.machine_laws.specs.declared.refusal.Unlawful.TheVariants.{BegunTwice, StrangeNumber, Refused, NotAsked, Early, NothingFailed}
use Rattle.machine_laws.specs.Plan.{Call, Plan, items_by}
use Rattle.machine_laws.specs.Refusal.{refusal_by_time}

-- what the machine keeps of one federate
pub record Member : Type 0 where
  pub time : Fed
  -- its next sequence number
  pub seq : ℕ
  pub log : List LogEntry
  -- the text of its failure, empty before one
  pub text : List ℕ

pub record State : Type 0 where
  pub begun : Bool
  pub members : List Member
  -- the undelivered items of all federates, in order
  pub items : List Parcel

-- the steps name federates by their numbers
pub data Step : Type 0 where
  begin : Step
  enter : ℕ → Step
  make : ℕ → Call → Step
  request : ℕ → ℕ → Mode → Step
  grant : ℕ → Step
  finish : ℕ → Step
  fail : ℕ → List ℕ → Step
  die : ℕ → Step
  -- of a core, for a federate that has failed or died
  halt : ℕ → ℕ → Step

-- the settings where a federate names none
abbrev pub default_terms : Terms
default_terms =
    record {
      period = 0;
      offset = 0;
      time_delta = 0;
      input_delay = 0;
      output_delay = 0;
      uninterruptible = false;
      wait = false;
      max_iterations = 50;
    }

abbrev pub new_member : Terms → Member
new_member terms = record { time = created terms; seq = 0; log = []; text = [] }

-- stands where there is no federate of that number
abbrev pub blank_member : Member
blank_member = new_member default_terms

-- every federate is Created, and nothing was sent
abbrev pub opening : Plan → State
opening p = record { begun = false; members = map new_member p.settings; items = [] }

abbrev pub member_at : State → ℕ → Member
member_at s f = slice_index_or s.members f blank_member

-- the dues of the items to a federate
abbrev pub dues_to : List Parcel → ℕ → List At
dues_to items f = map (λ (i : Parcel). i.due) (filter (is_to f) items)

-- the stamp at which a federate would act next, and the cut of a grant there: what is due by it is handed over
abbrev pub event_in : State → ℕ → At
event_in s f = event_of (member_at s f).time (dues_to s.items f)

abbrev pub cut_in : State → ℕ → At
cut_in s f = cut_of (member_at s f).time (dues_to s.items f)

-- a grant of f with this cut hands it over
abbrev pub is_handed : ℕ → At → Parcel → Bool
is_handed f cut i = is_to f i && is_due cut i

abbrev pub is_left : ℕ → At → Parcel → Bool
is_left f cut i = not (is_handed f cut i)

-- what a grant of f hands over, and what it leaves
abbrev pub handed_in : State → ℕ → List Parcel
handed_in s f = filter (is_handed f (cut_in s f)) s.items

abbrev pub left_in : State → ℕ → List Parcel
left_in s f = filter (is_left f (cut_in s f)) s.items

-- what a call of f puts in
abbrev pub items_in : Plan → State → ℕ → Call → List Parcel
items_in p s f call = items_by p (member_at s f).time f (member_at s f).seq call

-- a call that has its place in two phases, where more may refuse it
abbrev pub by_phase : Phase → Option CallRefusal → Option CallRefusal
by_phase Initializing more = more
by_phase Running more = more
by_phase (Ended c) more = Some (HasEnded c)
by_phase phase more = Some (WrongPhase phase)

-- why a federate can't send now, whatever it calls
abbrev pub limit_refusal : Member → Option CallRefusal
limit_refusal m =
    if m.time.last.time == max_time then Some PastHorizon
    else (if nat_le (2 ^ 62) m.time.last.micro then Some MicroLimit else (if nat_le (2 ^ 32) m.seq then Some CountLimit else None))

-- a call that sends: first its place, then whether the plan has such a call, then the limits
abbrev pub make_refusal : Plan → ℕ → Member → Call → Option CallRefusal
make_refusal p f m call = by_phase m.time.phase (option_or (p.objects f call) (limit_refusal m))

abbrev pub finish_refusal : Member → Option CallRefusal
finish_refusal m = by_phase m.time.phase None

-- only the end of a federate refuses a failure or a death
abbrev pub end_refusal : Phase → Option CallRefusal
end_refusal (Ended c) = Some (HasEnded c)
end_refusal phase = None

-- the first of these that could still send what is due by the cut
abbrev pub holder_in : Plan → State → At → List ℕ → Option Unlawful
holder_in p s cut [] = None
holder_in p s cut (a ∷ more) = if before cut (p.first a (event_in s a)) then holder_in p s cut more else Some (Early a (event_in s a))

-- only a federate that waits is granted, and only where no ancestor holds it
abbrev pub grant_refusal : Plan → State → ℕ → Option Unlawful
grant_refusal p s f = if is_asking (member_at s f).time.phase then holder_in p s (cut_in s f) (p.ancestors f) else Some NotAsked

-- it failed or died, so a halt may name it
abbrev pub failed_or_died : Phase → Bool
failed_or_died (Ended Failed) = true
failed_or_died (Ended Died) = true
failed_or_died phase = false

-- a federate's number that isn't the plan's comes first
abbrev pub if_known : State → ℕ → Option Unlawful → Option Unlawful
if_known s f refusal = if nat_lt f (length s.members) then refusal else Some StrangeNumber

-- the same of a call's refusal
abbrev pub if_refused : State → ℕ → Option CallRefusal → Option Unlawful
if_refused s f refusal = if_known s f (option_map Refused refusal)

-- the first condition of a step that fails
abbrev pub refusal_of : Plan → State → Step → Option Unlawful
refusal_of p s begin = if s.begun then Some BegunTwice else None
refusal_of p s (enter f) = if_refused s f (option_map refusal_by_time (enter_refusal (member_at s f).time))
refusal_of p s (make f call) = if_refused s f (make_refusal p f (member_at s f) call)
refusal_of p s (request f time mode) = if_refused s f (option_map refusal_by_time (request_refusal (member_at s f).time))
refusal_of p s (grant f) = if_known s f (grant_refusal p s f)
refusal_of p s (finish f) = if_refused s f (finish_refusal (member_at s f))
refusal_of p s (fail f text) = if_refused s f (end_refusal (member_at s f).time.phase)
refusal_of p s (die f) = if_refused s f (end_refusal (member_at s f).time.phase)
refusal_of p s (halt core f) =
    if p.is_core core then if_known s f (if failed_or_died (member_at s f).time.phase then None else Some NothingFailed) else Some StrangeNumber

-- the times in a step are times
abbrev pub KeepsTime : Step → Type 0
KeepsTime (request f time mode) = time ≤ max_time
KeepsTime step = Unit {0}

abbrev pub IsLawful : Plan → State → Step → Type 0
IsLawful p s step = (refusal_of p s step ≡ None) × KeepsTime step

-- what each kind of step makes of a member
abbrev pub begun_member : Member → Member
begun_member m = begun m.time.phase
  where
    begun : Phase → Member
    begun Created = record m { time = record m.time { phase = Initializing } }
    begun phase = m

abbrev pub entered_member : Member → Member
entered_member m = record m { time = record m.time { phase = Entering } }

abbrev pub called_member : Member → Member
called_member m = record m { seq = m.seq + 1 }

abbrev pub requested_member : Member → ℕ → Mode → Member
requested_member m time mode = record m { time = requested m.time time mode }

-- granted over items of these dues, with these handed over
abbrev pub granted_member : Member → List At → List Parcel → Member
granted_member m dues handed =
    record m { time = granted m.time dues; log = m.log ++ (record { grant = grant_of m.time dues; items = handed }) ∷ [] }

abbrev pub ended_member : Member → Cause → Member
ended_member m cause = record m { time = ended m.time cause [] }

abbrev pub failed_member : Member → List ℕ → Member
failed_member m text = record m { time = ended m.time Failed []; text = text }

-- a member that lives is halted by f where it stands there
abbrev pub halted_if : Bool → ℕ → Member → Member
halted_if there f m = if there && is_live m.time.phase then ended_member m (Halted f) else m

-- the members from number i on, where those of one core are halted
abbrev pub halted_from : (ℕ → ℕ) → ℕ → ℕ → ℕ → List Member → List Member
halted_from core_of core f i [] = []
halted_from core_of core f i (m ∷ ms) = halted_if (core_of i == core) f m ∷ halted_from core_of core f (suc i) ms

-- another member in the place of f, and other items
abbrev pub with_member : State → ℕ → Member → List Parcel → State
with_member s f m items = record s { members = slice_set s.members f m; items = items }

-- the state after a lawful step
abbrev pub after : Plan → State → Step → State
after p s begin = record s { begun = true; members = map begun_member s.members }
after p s (enter f) = with_member s f (entered_member (member_at s f)) s.items
after p s (make f call) = with_member s f (called_member (member_at s f)) (insert_all (items_in p s f call) s.items)
after p s (request f time mode) = with_member s f (requested_member (member_at s f) time mode) s.items
after p s (grant f) = with_member s f (granted_member (member_at s f) (dues_to s.items f) (handed_in s f)) (left_in s f)
after p s (finish f) = with_member s f (ended_member (member_at s f) Finished) s.items
after p s (fail f text) = with_member s f (failed_member (member_at s f) text) s.items
after p s (die f) = with_member s f (ended_member (member_at s f) Died) s.items
after p s (halt core f) = record s { members = halted_from p.core core f 0 s.members }

-- lawful steps, one after another
abbrev pub IsRun : Plan → State → List Step → State → Type 0
IsRun p s [] end = end ≡ s
IsRun p s (step ∷ steps) end = IsLawful p s step × IsRun p (after p s step) steps end

-- how a member's log ends
abbrev pub end_of : Member → LogEnd
end_of m = in_phase m.time.phase
  where
    in_phase : Phase → LogEnd
    in_phase (Ended Failed) = FailedText m.text
    in_phase (Ended cause) = LogEnded cause
    in_phase phase = Open phase

abbrev pub log_of : Member → FedLog
log_of m = record { entries = m.log; end = end_of m }

abbrev pub logs_of : State → List FedLog
logs_of s = map log_of s.members
