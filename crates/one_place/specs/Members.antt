-- What the code keeps of the machine's state: what changes often of each federate with its queue, and the logs apart.
use Rattle.std.specs.Prelude.{ℕ, suc, ◌+◌, ◌<◌, ◌≡◌, Bool, List, [], ◌∷◌, ◌++◌, length, map, slice_index_or, slice_set}
use Rattle.std.specs.List.{filter, AllByRecursion}
use Rattle.hel_lists.specs.Members.{Each}
use Rattle.helics_time.specs.Settings.{Terms}
use Rattle.helics_time.specs.Stamp.{At, IsDue}
use Rattle.due_queue.specs.Item.{Parcel}
use Rattle.due_queue.specs.Order.{enqueue}
use Rattle.due_queue.specs.Queue.{is_made_otherwise}
use Rattle.interface_names.specs.declared.records.FederateRecord.{FederateRecord}
use Rattle.machine_laws.specs.declared.logs.LogEnd.{LogEnd}
use Rattle.machine_laws.specs.declared.logs.LogEnd.TheVariants.{Ended, FailedText, Open}
use Rattle.machine_laws.specs.declared.logs.FedLog.{FedLog}
use Rattle.machine_laws.specs.Machine.{Member, State, default_terms, member_at, event_in, end_of}
use Rattle.time_state.specs.Fed.{Fed, IsFed, created, event_of, zero_stamp}
use Rattle.time_state.specs.declared.Phase.TheVariants.{Created}
use Rattle.one_place.specs.declared.seat.Clock.{Clock}

-- the dues of the items in a queue
abbrev pub dues_of : List Parcel → List At
dues_of queue = map (λ (i : Parcel). i.due) queue

-- the text of a log's end
abbrev pub text_of : LogEnd → List ℕ
text_of (FailedText text) = text
text_of (Ended cause) = []
text_of (Open phase) = []

-- the member of which this clock and this log are kept
abbrev pub member_of : Clock → FedLog → Member
member_of c l = record { time = c.time; seq = c.seq; log = l.entries; text = text_of l.end }

-- a federate that sends, of this time and sequence number
abbrev pub sender_of : Fed → ℕ → Member
sender_of time seq = record { time = time; seq = seq; log = []; text = [] }

-- what a clock keeps
pub record IsClock (c : Clock) : Type 0 where
  pub fed : IsFed c.time
  pub dues : Each (λ i. IsDue i.due) c.queue
  -- the stamp at which its federate acts next is the event over the queue
  pub event : c.event ≡ event_of c.time (dues_of c.queue)

-- what a clock and its log keep
pub record IsSeat (c : Clock) (l : FedLog) : Type 0 where
  pub clock : IsClock c
  -- the log ends as its federate stands
  pub ends : l.end ≡ end_of (member_of c l)

-- clock and log stand for this member and this queue
pub record IsSeatOf (c : Clock) (l : FedLog) (m : Member) (queue : List Parcel) : Type 0 where
  pub seat : IsSeat c l
  pub member : member_of c l ≡ m
  pub queued : c.queue ≡ queue

abbrev pub AreClocks : List Clock → Type 0
AreClocks clocks = AllByRecursion IsClock clocks

abbrev pub AreSeats : List Clock → List FedLog → Type 0
AreSeats [] [] = Unit {0}
AreSeats (c ∷ cs) (l ∷ ls) = IsSeat c l × AreSeats cs ls
AreSeats cs ls = ⊥

-- each queue, from that of federate f on, has the items to its federate alone
abbrev pub AreQueued : ℕ → List Clock → Type 0
AreQueued f [] = Unit {0}
AreQueued f (c ∷ cs) = Each (λ i. i.target ≡ f) c.queue × AreQueued (suc f) cs

-- each clock with its log
unfoldable pub joined : List Clock → List FedLog → List Member
joined [] ls = []
joined (c ∷ cs) [] = []
joined (c ∷ cs) (l ∷ ls) = member_of c l ∷ joined cs ls

-- all queues, one after another
unfoldable pub gathered : List Clock → List Parcel
gathered [] = []
gathered (c ∷ cs) = c.queue ++ gathered cs

-- the clock of a federate that is Created
abbrev pub new_clock : Terms → Clock
new_clock terms = record { time = created terms; seq = 0; queue = []; event = zero_stamp }

-- one for each federate
abbrev pub new_clocks : List FederateRecord → List Clock
new_clocks feds = map (λ (f : FederateRecord). new_clock f.settings) feds

-- the clock and the log of a federate; the blank ones stand where there is none of that number
abbrev pub blank_clock : Clock
blank_clock = new_clock default_terms

abbrev pub blank_log : FedLog
blank_log = record { entries = []; end = Open Created }

abbrev pub clock_at : List Clock → ℕ → Clock
clock_at cs f = slice_index_or cs f blank_clock

abbrev pub log_at : List FedLog → ℕ → FedLog
log_at ls f = slice_index_or ls f blank_log

-- the state of which they are kept
abbrev pub state_of : Bool → List Clock → List FedLog → State
state_of begun cs ls = record { begun = begun; members = joined cs ls; items = gathered cs }

-- what all clocks and logs keep
pub record AreKept (cs : List Clock) (ls : List FedLog) : Type 0 where
  pub seats : AreSeats cs ls
  pub queued : AreQueued 0 cs
  -- an item's number has been given out
  pub numbered : Each (λ i. i.seq < (clock_at cs i.source).seq) (gathered cs)

-- a clock with another queue
abbrev pub with_queue : Clock → List Parcel → Clock
with_queue c queue = record c { queue = queue; event = event_of c.time (dues_of queue) }

-- a clock without the items of one call
abbrev pub taken_back : ℕ → ℕ → Clock → Clock
taken_back source seq c = with_queue c (filter (is_made_otherwise source seq) c.queue)

-- the clocks with an item in the queue of its target, and with several, one after another
abbrev pub put_in : Parcel → List Clock → List Clock
put_in i cs = slice_set cs i.target (with_queue (clock_at cs i.target) (enqueue i (clock_at cs i.target).queue))

abbrev pub put_all : List Parcel → List Clock → List Clock
put_all [] cs = cs
put_all (i ∷ items) cs = put_all items (put_in i cs)

-- the clocks after a call of a federate that sends
abbrev pub called_at : ℕ → List Clock → List Clock
called_at f cs = slice_set cs f (record (clock_at cs f) { seq = (clock_at cs f).seq + 1 })

-- there is a federate for each item, and its call of this number made it
abbrev pub AreMade : ℕ → ℕ → ℕ → List Parcel → Type 0
AreMade count source seq items = Each (λ i. (i.target < count) × (i.source ≡ source) × (i.seq ≡ seq)) items

-- the clock of a federate of the machine
pub record IsClockOf (s : State) (f : ℕ) (c : Clock) : Type 0 where
  pub within : f < length s.members
  pub time : c.time ≡ (member_at s f).time
  pub seq : c.seq ≡ (member_at s f).seq
  pub event : c.event ≡ event_in s f
