-- Laws of every run.
use Rattle.std.specs.Prelude.{ℕ, ◌+◌, ◌<◌, ◌≤◌, ◌≡◌, ◌≢◌, ◌⊎◌, ◌↔◌, Bool, true, false, List, [], ◌∷◌, ◌++◌, length, map, slice_index_or, Some, None}
use Rattle.std.specs.List.{filter, flat_map}
use Rattle.std.specs.List.Sorted.{IsStrictlyIncreasing}
use Rattle.helics_time.specs.Stamp.{At, IsDue, rank}
use Rattle.helics_time.specs.Settings.{Terms, is_lawful, delta_of}
use Rattle.hel_lists.specs.Members.{IsIn, Each}
use Rattle.due_queue.specs.Item.{Parcel, is_to}
use Rattle.due_queue.specs.Order.{InOrder}
use Rattle.iteration_rules.specs.Iteration.{iterates, effective}
use Rattle.iteration_rules.specs.declared.Kind.{Kind}
use Rattle.iteration_rules.specs.declared.Kind.TheVariants.{NextStep, Iterating}
use Rattle.iteration_rules.specs.declared.Mode.{Mode}
use Rattle.iteration_rules.specs.declared.Mode.TheVariants.{Force, IfNeeded}
use Rattle.time_state.specs.Fed.{Fed, IsFed, zero_stamp, is_asking, request_stamp, requested, grant_of}
use Rattle.time_state.specs.declared.Grant.{Grant}
use Rattle.time_state.specs.declared.Cause.TheVariants.{Finished}
use Rattle.time_state.specs.declared.Phase.TheVariants.{Entering, Waiting, Ended}
use Rattle.machine_laws.specs.declared.logs.LogEntry.{LogEntry}
use Rattle.machine_laws.specs.declared.refusal.Unlawful.TheVariants.{StrangeNumber, NotAsked, Early}
use Rattle.machine_laws.specs.Plan.{Call, Plan, IsPlan}
use Rattle.machine_laws.specs.Machine.{State, Step, default_terms, member_at, event_in, cut_in, dues_to, handed_in, items_in, requested_member, refusal_of, IsRun, IsLawful, after, opening}
use Rattle.machine_laws.specs.Machine.Step.{make, request, grant}

-- what every state of a run keeps
pub record Keeps (p : Plan) (s : State) : Type 0 where
  pub feds : (f : ℕ) → IsFed (member_at s f).time
  pub dues : Each (λ i. IsDue i.due) s.items
  -- an item's source is its target or an ancestor, and its number has been given out
  pub sources : Each (λ i. (i.target ≡ i.source) ⊎ IsIn i.source (p.ancestors i.target)) s.items
  pub numbers : Each (λ i. i.seq < (member_at s i.source).seq) s.items
  pub ordered : InOrder s.items
  -- nothing undelivered is due by the last cut
  pub late : Each (λ i. rank (member_at s i.target).time.last_cut < rank i.due) s.items
  -- nor will an ancestor send it
  pub safe : (f a : ℕ) → IsIn a (p.ancestors f) → rank (member_at s f).time.last_cut < rank (p.first a (event_in s a))

abbrev pub RunsKeep : Type 0
RunsKeep = (p : Plan) (steps : List Step) (end : State) → IsPlan p → IsRun p (opening p) steps end → Keeps p end

-- Nothing late: after a grant of f nothing that is due by its cut is ever undelivered for f.
abbrev pub NothingLate : Type 0
NothingLate = (p : Plan) (s t : State) (f : ℕ) (before later : List Step) (i : Parcel) → IsPlan p →
    IsRun p (opening p) before s → IsLawful p s (grant f) → IsRun p (after p s (grant f)) later t →
    IsIn i t.items → i.target ≡ f → rank (cut_in s f) < rank i.due

abbrev pub stamp_of : Grant → At
stamp_of g = record { time = g.time; micro = g.micro }

-- how a grant of a federate stands to its grant before and to what it asked for
pub record OnGrid (f : Fed) (g : Grant) : Type 0 where
  pub rises : rank f.last < rank (stamp_of g)
  pub entry : f.phase ≡ Entering → (g.time ≡ 0) × (g.micro ≡ 1) × (g.kind ≡ NextStep)
  pub next : f.phase ≡ Waiting → g.kind ≡ NextStep → (is_lawful f.settings g.time ≡ true) × (f.last.time + delta_of f.settings ≤ g.time)
  pub iterating : g.kind ≡ Iterating → (f.phase ≡ Waiting) × (g.time ≡ f.last.time) × (iterates f.request.mode ≡ true) × (f.count < f.settings.max_iterations)
  pub uninterruptible : f.phase ≡ Waiting → f.settings.uninterruptible ≡ true → stamp_of g ≡ request_stamp f

-- Grants rise on their grid.
abbrev pub GrantsOnGrid : Type 0
GrantsOnGrid = (p : Plan) (s : State) (f : ℕ) (before : List Step) → IsPlan p → IsRun p (opening p) before s → IsLawful p s (grant f) →
    OnGrid (member_at s f).time (grant_of (member_at s f).time (dues_to s.items f))

abbrev pub entry_rank : LogEntry → ℕ
entry_rank e = rank (stamp_of e.grant)

-- each stamp of a log is above those before it
abbrev pub Rises : List LogEntry → Type 0
Rises entries = IsStrictlyIncreasing (map entry_rank entries)

-- So the stamps of each log strictly rise.
abbrev pub LogsRise : Type 0
LogsRise = (p : Plan) (s : State) (f : ℕ) (steps : List Step) → IsPlan p → IsRun p (opening p) steps s → Rises (member_at s f).log

-- the stamp of the last grant of a log, after this one
abbrev pub last_stamp : At → List LogEntry → At
last_stamp s [] = s
last_stamp s (e ∷ entries) = last_stamp (stamp_of e.grant) entries

-- the count of iterating grants after one of this kind
abbrev pub iterating_after : ℕ → Kind → ℕ
iterating_after count Iterating = count + 1
iterating_after count NextStep = 0

-- how many grants at the end of a log are iterating, after so many
abbrev pub iterating_last : ℕ → List LogEntry → ℕ
iterating_last count [] = count
iterating_last count (e ∷ entries) = iterating_last (iterating_after count e.grant.kind) entries

-- the first grant of a log is the entry
abbrev pub BeginsWithEntry : List LogEntry → Type 0
BeginsWithEntry [] = Unit {0}
BeginsWithEntry (e ∷ entries) = e.grant ≡ record { time = 0; micro = 1; kind = NextStep }

-- the settings of a federate of a plan
abbrev pub terms_of : Plan → ℕ → Terms
terms_of p f = slice_index_or p.settings f default_terms

-- a log begins with the entry, and what a federate keeps of its settings and its grants is what the plan and its log tell
pub record LogTells (p : Plan) (s : State) (f : ℕ) : Type 0 where
  pub entry : BeginsWithEntry (member_at s f).log
  pub settings : (member_at s f).time.settings ≡ terms_of p f
  pub last : (member_at s f).time.last ≡ last_stamp zero_stamp (member_at s f).log
  pub count : (member_at s f).time.count ≡ iterating_last 0 (member_at s f).log

-- So the settings, the grant before and the iterating grants since the time last rose are those of which `OnGrid` speaks.
abbrev pub LogsTell : Type 0
LogsTell = (p : Plan) (s : State) (f : ℕ) (steps : List Step) → IsPlan p → IsRun p (opening p) steps s → LogTells p s f

-- the last request of f in a run to s: nothing was granted to f since, and it is as that request left it
pub record LastRequest (p : Plan) (s : State) (f : ℕ) (steps : List Step) : Type 0 where
  pub before : List Step
  pub time : ℕ
  pub mode : Mode
  pub later : List Step
  pub split : steps ≡ before ++ request f time mode ∷ later
  pub last : (t : ℕ) (m : Mode) → IsIn (request f t m) later → ⊥
  pub ungranted : IsIn (grant f) later → ⊥
  -- the state in which it was made
  pub at : State
  pub run : IsRun p (opening p) before at
  -- it was taken in mode Next where the iterating grants stood at their limit
  pub taken : (member_at s f).time.request ≡ record { time = time; mode = effective mode (iterating_last 0 (member_at at f).log) (terms_of p f).max_iterations }
  pub left : member_at s f ≡ requested_member (member_at at f) time mode

-- So what a federate waits for is what the last of its requests asked for.
abbrev pub RequestsTell : Type 0
RequestsTell = (p : Plan) (s : State) (f : ℕ) (steps : List Step) → IsPlan p → IsRun p (opening p) steps s → (member_at s f).time.phase ≡ Waiting → LastRequest p s f steps

-- the stamp of a request that is made in this state
abbrev pub stamp_asked : State → ℕ → ℕ → Mode → At
stamp_asked s f time mode = request_stamp (requested (member_at s f).time time mode)

-- a grant as the last request of its federate asked for it
pub record AsAsked (p : Plan) (s : State) (f : ℕ) (steps : List Step) (g : Grant) : Type 0 where
  pub asked : LastRequest p s f steps
  pub within : rank (stamp_of g) ≤ rank (stamp_asked asked.at f asked.time asked.mode)
  pub iterating : g.kind ≡ Iterating → ((asked.mode ≡ Force) ⊎ (asked.mode ≡ IfNeeded)) × (iterating_last 0 (member_at asked.at f).log < (terms_of p f).max_iterations)
  pub uninterruptible : (terms_of p f).uninterruptible ≡ true → stamp_of g ≡ stamp_asked asked.at f asked.time asked.mode

-- So each grant but the entry is as its federate asked for it last.
abbrev pub GrantsAsAsked : Type 0
GrantsAsAsked = (p : Plan) (s : State) (f : ℕ) (before : List Step) → IsPlan p → IsRun p (opening p) before s → IsLawful p s (grant f) → (member_at s f).time.phase ≡ Waiting →
    AsAsked p s f before (grant_of (member_at s f).time (dues_to s.items f))

-- an ancestor of f could still send what is due by the cut of f
abbrev pub Holds : Plan → State → ℕ → ℕ → Type 0
Holds p s f a = IsIn a (p.ancestors f) × (rank (p.first a (event_in s a)) ≤ rank (cut_in s f))

-- a is the least federate that holds a grant of f, and this is its event
pub record IsHolder (p : Plan) (s : State) (f a : ℕ) (event : At) : Type 0 where
  pub holds : Holds p s f a
  pub least : (b : ℕ) → Holds p s f b → a ≤ b
  pub other : a ≢ f
  pub acts : event ≡ event_in s a

-- when a grant of f is refused, and for what
pub record GrantRefusals (p : Plan) (s : State) (f : ℕ) : Type 0 where
  pub strange : (refusal_of p s (grant f) ≡ Some StrangeNumber) ↔ (length s.members ≤ f)
  pub unasked : (refusal_of p s (grant f) ≡ Some NotAsked) ↔ ((f < length s.members) × (is_asking (member_at s f).time.phase ≡ false))
  pub early : (a : ℕ) (event : At) → (refusal_of p s (grant f) ≡ Some (Early a event)) ↔ ((is_asking (member_at s f).time.phase ≡ true) × IsHolder p s f a event)
  pub lawful : (refusal_of p s (grant f) ≡ None) ↔ ((is_asking (member_at s f).time.phase ≡ true) × ((a : ℕ) → Holds p s f a → ⊥))

-- A grant that was asked for is early exactly where an ancestor holds it; the least of them is named, with its event.
abbrev pub EarlyNamesTheLeast : Type 0
EarlyNamesTheLeast = (p : Plan) (s : State) (f : ℕ) (before : List Step) → IsPlan p → IsRun p (opening p) before s → GrantRefusals p s f

-- none of these steps is a grant that reaches the item
abbrev pub NotReached : Plan → State → List Step → Parcel → Type 0
NotReached p s [] i = Unit {0}
NotReached p s (step ∷ steps) i = (step ≡ grant i.target → rank (cut_in s i.target) < rank i.due) × NotReached p (after p s step) steps i

-- At the first grant reaching it: until then an item stays, and that grant hands it over.
abbrev pub KeptUntilReached : Type 0
KeptUntilReached = (p : Plan) (s t : State) (before later : List Step) (i : Parcel) → IsPlan p → IsRun p (opening p) before s → IsIn i s.items →
    IsRun p s later t → NotReached p s later i → IsIn i t.items

abbrev pub HandedWhenReached : Type 0
HandedWhenReached = (p : Plan) (s : State) (before : List Step) (i : Parcel) → IsPlan p → IsRun p (opening p) before s → IsIn i s.items →
    IsLawful p s (grant i.target) → rank i.due ≤ rank (cut_in s i.target) → IsIn i (handed_in s i.target)

-- At most once: what a grant hands over was undelivered, and is so never again.
abbrev pub HandedOnce : Type 0
HandedOnce = (p : Plan) (s t : State) (f : ℕ) (before later : List Step) (i : Parcel) → IsPlan p → IsRun p (opening p) before s → IsLawful p s (grant f) →
    IsIn i (handed_in s f) → IsRun p (after p s (grant f)) later t → IsIn i t.items → ⊥

-- What a grant hands over stands in order.
abbrev pub HandedInOrder : Type 0
HandedInOrder = (p : Plan) (s : State) (f : ℕ) (before : List Step) → IsPlan p → IsRun p (opening p) before s → InOrder (handed_in s f)

-- an item is handed over in these steps, and only at the first grant that reaches it
pub record IsHanded (p : Plan) (s : State) (steps : List Step) (end : State) (i : Parcel) : Type 0 where
  pub first : List Step
  pub rest : List Step
  pub at : State
  pub split : steps ≡ first ++ grant i.target ∷ rest
  pub run : IsRun p s first at
  pub far : NotReached p s first i
  pub reached : rank i.due ≤ rank (cut_in at i.target)
  pub handed : IsIn i (handed_in at i.target)
  pub more : IsRun p (after p at (grant i.target)) rest end
  pub never : IsIn i end.items → ⊥

-- The fate of each item: it stays while no grant reaches it, or it is handed over at the first that does.
abbrev pub ItemsFates : Type 0
ItemsFates = (p : Plan) (s end : State) (before steps : List Step) (i : Parcel) → IsPlan p → IsRun p (opening p) before s → IsIn i s.items → IsRun p s steps end →
    (NotReached p s steps i × IsIn i end.items) ⊎ IsHanded p s steps end i

-- Items come from accepted calls alone, and each accepted call puts in its own.
pub record FromCalls (p : Plan) (s : State) (step : Step) : Type 0 where
  pub alone : (i : Parcel) → IsIn i (after p s step).items → IsIn i s.items ⊎ ((f : ℕ) × (call : Call) × (step ≡ make f call) × IsIn i (items_in p s f call))
  pub each : (f : ℕ) (call : Call) (i : Parcel) → step ≡ make f call → IsIn i (items_in p s f call) → IsIn i (after p s step).items

abbrev pub ItemsFromCalls : Type 0
ItemsFromCalls = (p : Plan) (s : State) (step : Step) → FromCalls p s step

-- what a step hands over, and what it puts in
abbrev pub handed_by : State → Step → List Parcel
handed_by s (grant f) = handed_in s f
handed_by s step = []

abbrev pub put_by : Plan → State → Step → List Parcel
put_by p s (make f call) = items_in p s f call
put_by p s step = []

-- and so do the steps of a run, one after another
abbrev pub all_handed : Plan → State → List Step → List Parcel
all_handed p s [] = []
all_handed p s (step ∷ steps) = handed_by s step ++ all_handed p (after p s step) steps

abbrev pub all_put : Plan → State → List Step → List Parcel
all_put p s [] = []
all_put p s (step ∷ steps) = put_by p s step ++ all_put p (after p s step) steps

-- Nothing is lost or doubled: of each sort of items as many were put in as were handed over and are left.
abbrev pub ItemsAddUp : Type 0
ItemsAddUp = (p : Plan) (steps : List Step) (end : State) (sort : Parcel → Bool) → IsRun p (opening p) steps end →
    length (filter sort (all_put p (opening p) steps)) ≡ length (filter sort (all_handed p (opening p) steps)) + length (filter sort end.items)

-- all that a log tells of as handed over
abbrev pub logged_items : List LogEntry → List Parcel
logged_items entries = flat_map (λ (e : LogEntry). e.items) entries

-- The logs hold all that was handed over, in order: each federate's log what was for it.
abbrev pub LogsHold : Type 0
LogsHold = (p : Plan) (steps : List Step) (end : State) (f : ℕ) → IsPlan p → IsRun p (opening p) steps end →
    logged_items (member_at end f).log ≡ filter (is_to f) (all_handed p (opening p) steps)

-- two federates that wait for current updates and are each other's ancestors
pub record WaitForEachOther (p : Plan) (a b : ℕ) : Type 0 where
  pub a_waits : (terms_of p a).wait ≡ true
  pub b_waits : (terms_of p b).wait ≡ true
  pub a_first : IsIn a (p.ancestors b)
  pub b_first : IsIn b (p.ancestors a)

-- each federate waits for a grant, or has finished
abbrev pub AllWait : State → Type 0
AllWait s = (f : ℕ) → f < length s.members → (is_asking (member_at s f).time.phase ≡ true) ⊎ ((member_at s f).time.phase ≡ Ended Finished)

-- Where all wait that haven't finished, and no two federates for each other, some grant is lawful.
abbrev pub SomeGrant : Type 0
SomeGrant = (p : Plan) (s : State) (before : List Step) (f : ℕ) → IsPlan p → ((a b : ℕ) → IsIn a (p.ancestors b) → a < length s.members) →
    IsRun p (opening p) before s → AllWait s → f < length s.members → is_asking (member_at s f).time.phase ≡ true →
    ((a b : ℕ) → WaitForEachOther p a b → ⊥) → (g : ℕ) × (refusal_of p s (grant g) ≡ None)
