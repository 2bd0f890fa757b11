-- Clocks and logs, read and written at one place.
use Rattle.std.proofs.Common.{◌≡◌, ℕ, zero, suc, ◌+◌, ◌<◌, ◌≤◌, Bool, true, false, not, List, [], ◌∷◌, ◌++◌, length, take, drop, refl, ap, ◌∙◌, sym, subst, arith, inl, inr}
use Rattle.std.specs.Prelude.{slice_set, slice_index_or, map, replicate, Result, Ok, Err, Option, Some, None, IfSome, is_some, nat_lt}
use Rattle.std.specs.Result.{OnOk, OnErr}
use Rattle.std.specs.List.{filter}
use Rattle.std.proofs.lemmas.Bool.{cases_Bool}
use Rattle.std.proofs.lemmas.Bool.Decides.{nat_tests}
use Rattle.std.proofs.lemmas.List.{get_or_past, get_or_read, set-get_or}
use Rattle.hel_lists.specs.Members.{IsIn, Each}
use Rattle.hel_lists.proofs.Members.{in_filter}
use Rattle.helics_time.specs.Stamp.{At}
use Rattle.due_queue.specs.Item.{Parcel, is_to, is_due}
use Rattle.time_state.specs.Fed.{cut_of, event_of, is_live, zero_stamp}
use Rattle.time_state.specs.declared.Phase.{Phase}
use Rattle.time_state.specs.declared.Phase.TheVariants.{Created, Initializing, Entering, Running, Waiting, Ended}
use Rattle.machine_laws.specs.declared.logs.FedLog.{FedLog}
use Rattle.helics_time.specs.Settings.{Terms, IsTerms}
use Rattle.interface_names.specs.declared.records.FederateRecord.{FederateRecord}
use Rattle.federation_plan.specs.Plan.{IsKept}
use Rattle.machine_laws.specs.Machine.{Member, State, new_member, blank_member, member_at, event_in, cut_in, dues_to, is_handed, is_left, handed_in, left_in, with_member, begun_member, granted_member, halted_if, log_of}
use Rattle.one_place.specs.declared.seat.Clock.{Clock}
use Rattle.one_place.specs.Members.{member_of, dues_of, IsSeat, IsSeatOf, IsClockOf, AreSeats, AreClocks, AreKept, joined, gathered, state_of, blank_clock, blank_log, clock_at, log_at, new_clock, new_clocks}
use Rattle.time_state.proofs.Turns.{opening_stands}
use Rattle.one_place.proofs.Mapped.{map_next}
use Rattle.one_place.proofs.Gathered.{queued_set, own_queue, queue_is, handed_is, left_is, gathered_same, none_gathered, none_queued}

-- there are as many logs as clocks
pub logs_length : (cs : List Clock) (ls : List FedLog) → AreSeats cs ls → length ls ≡ length cs
logs_length [] [] seats = refl
logs_length [] (l ∷ ls) seats = absurd seats
logs_length (c ∷ cs) [] seats = absurd seats
logs_length (c ∷ cs) (l ∷ ls) seats = ap suc (logs_length cs ls seats.1)

-- and as many members
pub joined_length : (cs : List Clock) (ls : List FedLog) → AreSeats cs ls → length (joined cs ls) ≡ length cs
unfolding joined
joined_length [] ls seats = refl
joined_length (c ∷ cs) [] seats = absurd seats
joined_length (c ∷ cs) (l ∷ ls) seats = ap suc (joined_length cs ls seats.1)

-- each log ends as its federate stands
pub seat_at : (cs : List Clock) (ls : List FedLog) (i : ℕ) → AreSeats cs ls → i < length cs → IsSeat (clock_at cs i) (log_at ls i)
seat_at [] ls i seats within = absurd (omega arith)
seat_at (c ∷ cs) [] i seats within = absurd seats
seat_at (c ∷ cs) (l ∷ ls) zero seats within = seats.0
seat_at (c ∷ cs) (l ∷ ls) (suc i) seats within = seat_at cs ls i seats.1 (omega arith)

-- the same of a clock that was found there
pub seat_found : (cs : List Clock) (ls : List FedLog) (i : ℕ) (c : Clock) → AreSeats cs ls → i < length cs → c ≡ slice_index_or cs i c → IsSeat c (log_at ls i)
seat_found [] ls i c seats within found = absurd (omega arith)
seat_found (x ∷ cs) [] i c seats within found = absurd seats
seat_found (x ∷ cs) (l ∷ ls) zero c seats within found = subst (λ (d : Clock). IsSeat d l) (sym found) seats.0
seat_found (x ∷ cs) (l ∷ ls) (suc i) c seats within found = seat_found cs ls i c seats.1 (omega arith) found

-- a member is its clock with its log
pub joined_at : (cs : List Clock) (ls : List FedLog) (i : ℕ) → AreSeats cs ls → i < length cs →
    slice_index_or (joined cs ls) i blank_member ≡ member_of (clock_at cs i) (log_at ls i)
unfolding joined
joined_at [] ls i seats within = absurd (omega arith)
joined_at (c ∷ cs) [] i seats within = absurd seats
joined_at (c ∷ cs) (l ∷ ls) zero seats within = refl
joined_at (c ∷ cs) (l ∷ ls) (suc i) seats within = joined_at cs ls i seats.1 (omega arith)

-- a clock and a log that fit, put in one place
pub seats_set : (cs : List Clock) (ls : List FedLog) (i : ℕ) (c : Clock) (l : FedLog) → AreSeats cs ls → IsSeat c l → AreSeats (slice_set cs i c) (slice_set ls i l)
seats_set [] [] i c l seats seat = tt
seats_set [] (y ∷ ls) i c l seats seat = absurd seats
seats_set (x ∷ cs) [] i c l seats seat = absurd seats
seats_set (x ∷ cs) (y ∷ ls) zero c l seats seat = (seat, seats.1)
seats_set (x ∷ cs) (y ∷ ls) (suc i) c l seats seat = (seats.0, seats_set cs ls i c l seats.1 seat)

-- are a member put there
pub joined_set : (cs : List Clock) (ls : List FedLog) (i : ℕ) (c : Clock) (l : FedLog) → AreSeats cs ls → joined (slice_set cs i c) (slice_set ls i l) ≡ slice_set (joined cs ls) i (member_of c l)
unfolding joined
joined_set [] [] i c l seats = refl
joined_set [] (y ∷ ls) i c l seats = absurd seats
joined_set (x ∷ cs) [] i c l seats = absurd seats
joined_set (x ∷ cs) (y ∷ ls) zero c l seats = refl
joined_set (x ∷ cs) (y ∷ ls) (suc i) c l seats = ap (λ (ms : List Member). member_of x y ∷ ms) (joined_set cs ls i c l seats.1)

-- the logs are those of the members
pub logs_joined : (cs : List Clock) (ls : List FedLog) → AreSeats cs ls → ls ≡ map log_of (joined cs ls)
unfolding joined
logs_joined [] [] seats = refl
logs_joined [] (l ∷ ls) seats = absurd seats
logs_joined (c ∷ cs) [] seats = absurd seats
logs_joined (c ∷ cs) (l ∷ ls) seats = λ i. record { entries = l.entries; end = seats.0.ends i } ∷ logs_joined cs ls seats.1 i

-- federates at the beginning
new_seat : (terms : Terms) → IsTerms terms → IsSeat (new_clock terms) blank_log
new_seat terms is = record { clock = record { fed = opening_stands terms is; dues = λ i none. absurd none; event = refl }; ends = refl }

pub new_seats : (feds : List FederateRecord) → Each IsKept feds → AreSeats (new_clocks feds) (replicate (length feds) blank_log)
new_seats [] kept = tt
new_seats (fed ∷ feds) kept = (new_seat fed.settings (kept fed (inl refl)).terms, new_seats feds (λ f among. kept f (inr among)))

pub new_joined : (feds : List FederateRecord) → joined (new_clocks feds) (replicate (length feds) blank_log) ≡ map new_member (map (λ (f : FederateRecord). f.settings) feds)
unfolding joined
new_joined [] = refl
new_joined (fed ∷ feds) = ap (λ (ms : List Member). new_member fed.settings ∷ ms) (new_joined feds)

pub new_kept : (feds : List FederateRecord) → Each IsKept feds → AreKept (new_clocks feds) (replicate (length feds) blank_log)
new_kept feds kept = record {
  seats = new_seats feds kept;
  queued = none_queued 0 feds;
  numbered = subst (λ (items : List Parcel). Each (λ i. i.seq < (clock_at (new_clocks feds) i.source).seq) items) (sym (none_gathered feds)) (λ i none. absurd none);
}

-- the clocks of seats
pub clocks_of : (cs : List Clock) (ls : List FedLog) → AreSeats cs ls → AreClocks cs
clocks_of [] ls seats = tt
clocks_of (c ∷ cs) [] seats = absurd seats
clocks_of (c ∷ cs) (l ∷ ls) seats = (seats.0.clock, clocks_of cs ls seats.1)

-- a member of the state is its clock with its log
pub member_is : (b : Bool) (cs : List Clock) (ls : List FedLog) (f : ℕ) → AreKept cs ls → f < length cs → member_at (state_of b cs ls) f ≡ member_of (clock_at cs f) (log_at ls f)
member_is b cs ls f kept within = joined_at cs ls f kept.seats within

-- the event over the items to a federate is the one that its clock keeps
pub event_is : (b : Bool) (cs : List Clock) (ls : List FedLog) (f : ℕ) → AreKept cs ls → f < length cs → (clock_at cs f).event ≡ event_in (state_of b cs ls) f
event_is b cs ls f kept within =
    (seat_at cs ls f kept.seats within).clock.event
    ∙ ap (λ (m : Member). event_of m.time (dues_of (clock_at cs f).queue)) (sym (member_is b cs ls f kept within))
    ∙ ap (λ (queue : List Parcel). event_of (member_at (state_of b cs ls) f).time (dues_of queue)) (sym (queue_is f cs kept.queued))

-- a clock that was found at the place of a federate is its
pub clock_here : (s : State) (b : Bool) (cs : List Clock) (ls : List FedLog) (f : ℕ) (c : Clock) → AreKept cs ls → state_of b cs ls ≡ s → f < length cs → c ≡ slice_index_or cs f c → IsClockOf s f c
clock_here s b cs ls f c kept is within at =
    let here : c ≡ clock_at cs f = get_or_read cs f c within at blank_clock in
    let member : member_of c (log_at ls f) ≡ member_at s f = ap (λ (x : Clock). member_of x (log_at ls f)) here ∙ sym (member_is b cs ls f kept within) ∙ ap (λ (t : State). member_at t f) is in
    let same = joined_length cs ls kept.seats in
    let all : length (joined cs ls) ≡ length s.members = ap (λ (t : State). length t.members) is in
    record {
      within = omega (arith, same, all, within);
      time = ap (λ (m : Member). m.time) member;
      seq = ap (λ (m : Member). m.seq) member;
      event = ap (λ (x : Clock). x.event) here ∙ event_is b cs ls f kept within ∙ ap (λ (t : State). event_in t f) is;
    }

pub clock_got : {B : Type 0} (now : B → Clock) (r : Option B) (s : State) (b : Bool) (cs xs : List Clock) (ls : List FedLog) (f g : ℕ) → AreKept cs ls → state_of b cs ls ≡ s → xs ≡ cs → g ≡ f →
    is_some r ≡ nat_lt g (length xs) → IfSome r (λ x. now x ≡ slice_index_or xs g (now x)) → IfSome r (λ x. IsClockOf s f (now x))
clock_got now None s b cs xs ls f g kept is same to some at = tt
clock_got now (Some x) s b cs xs ls f g kept is same to some at =
    let count : length xs ≡ length cs = ap length same in
    let within : g < length xs = grind (arith, nat_tests) in
    clock_here s b cs ls f (now x) kept is (omega (arith, within, count, to)) (at ∙ (λ k. slice_index_or (same k) (to k) (now x)))

-- a federate of the state has a clock
pub clocks_count : (s : State) (b : Bool) (cs : List Clock) (ls : List FedLog) (f : ℕ) → AreKept cs ls → state_of b cs ls ≡ s → f < length s.members → f < length cs
clocks_count s b cs ls f kept is known =
    let same = joined_length cs ls kept.seats in
    let all : length (joined cs ls) ≡ length s.members = ap (λ (t : State). length t.members) is in
    omega (arith, same, all, known)

-- a federate that there isn't acts at once, and has sent nothing
pub strange_seq : (s : State) (f : ℕ) → length s.members ≤ f → 0 ≡ (member_at s f).seq
strange_seq s f over = ap (λ (m : Member). m.seq) (sym (get_or_past s.members f blank_member over))

pub strange_event : (s : State) (f : ℕ) → length s.members ≤ f → zero_stamp ≡ event_in s f
strange_event s f over = ap (λ (m : Member). event_of m.time (dues_to s.items f)) (sym (get_or_past s.members f blank_member over))

pub strange_cut : (s : State) (f : ℕ) → length s.members ≤ f → zero_stamp ≡ cut_in s f
strange_cut s f over = ap (λ (m : Member). cut_of m.time (dues_to s.items f)) (sym (get_or_past s.members f blank_member over))

-- a clock with the same number leaves all numbers
pub seq_stays : (cs : List Clock) (i : ℕ) (c : Clock) (k : ℕ) → c.seq ≡ (clock_at cs i).seq → (clock_at (slice_set cs i c) k).seq ≡ (clock_at cs k).seq
seq_stays [] i c k same = refl
seq_stays (x ∷ cs) zero c zero same = same
seq_stays (x ∷ cs) zero c (suc k) same = refl
seq_stays (x ∷ cs) (suc i) c zero same = refl
seq_stays (x ∷ cs) (suc i) c (suc k) same = seq_stays cs i c k same

-- a clock and its log in the place of a federate's others, with this member, and these items in all
pub record IsPlaced (b : Bool) (cs : List Clock) (ls : List FedLog) (i : ℕ) (c : Clock) (l : FedLog) (m : Member) (items : List Parcel) : Type 0 where
  pub kept : AreKept (slice_set cs i c) (slice_set ls i l)
  pub state : state_of b (slice_set cs i c) (slice_set ls i l) ≡ with_member (state_of b cs ls) i m items

-- with the same queue
pub placed : (b : Bool) (cs : List Clock) (ls : List FedLog) (i : ℕ) (c : Clock) (l : FedLog) (m : Member) (queue : List Parcel) → AreKept cs ls → IsSeatOf c l m queue →
    queue ≡ (clock_at cs i).queue → m.seq ≡ (clock_at cs i).seq → IsPlaced b cs ls i c l m (gathered cs)
placed b cs ls i c l m queue kept seat same number =
    let own : c.queue ≡ (clock_at cs i).queue = seat.queued ∙ same in
    let seq : c.seq ≡ (clock_at cs i).seq = ap (λ (x : Member). x.seq) seat.member ∙ number in
    let all : gathered (slice_set cs i c) ≡ gathered cs = gathered_same i cs c own in
    record {
      kept = record {
        seats = seats_set cs ls i c l kept.seats seat.seat;
        queued = queued_set i cs c kept.queued (subst (λ (q : List Parcel). Each (λ (x : Parcel). x.target ≡ i) q) (sym own) (own_queue i cs kept.queued));
        numbered = λ x among.
            (let less : x.seq < (clock_at cs x.source).seq = kept.numbered x (subst (λ (items : List Parcel). IsIn x items) all among) in
            let stays = seq_stays cs i c x.source seq in
            omega (arith, less, stays));
      };
      state = λ k. record { begun = b; members = (joined_set cs ls i c l kept.seats ∙ ap (slice_set (joined cs ls) i) seat.member) k; items = all k };
    }

-- a clock and a log that were found at the place of a federate are its seat
pub record IsFound (s : State) (b : Bool) (cs : List Clock) (ls : List FedLog) (i : ℕ) (c : Clock) (l : FedLog) : Type 0 where
  pub kept : AreKept cs ls
  pub is : state_of b cs ls ≡ s
  pub within : i < length cs
  pub clock : clock_at cs i ≡ c
  pub log : log_at ls i ≡ l
  pub seat : IsSeat c l
  pub member : member_of c l ≡ member_at s i

pub found : (s : State) (b : Bool) (cs : List Clock) (ls : List FedLog) (i : ℕ) (c : Clock) (l : FedLog) → AreKept cs ls → state_of b cs ls ≡ s → i < length s.members →
    c ≡ slice_index_or cs i c → log_at ls i ≡ l → IsFound s b cs ls i c l
found s b cs ls i c l kept is known at log =
    let same = joined_length cs ls kept.seats in
    let all : length (joined cs ls) ≡ length s.members = ap (λ (t : State). length t.members) is in
    let within : i < length cs = omega (arith, same, all, known) in
    let clock : clock_at cs i ≡ c = sym (get_or_read cs i c within at blank_clock) in
    record {
      kept = kept;
      is = is;
      within = within;
      clock = clock;
      log = log;
      seat = subst (λ (x : Clock). IsSeat x l) clock (subst (λ (x : FedLog). IsSeat (clock_at cs i) x) log (seat_at cs ls i kept.seats within));
      member = (λ k. member_of (sym clock k) (sym log k)) ∙ sym (member_is b cs ls i kept within) ∙ ap (λ (t : State). member_at t i) is;
    }

-- a change of one member, made on its clock and its log
pub record IsChanged (s : State) (b : Bool) (cs : List Clock) (ls : List FedLog) (i : ℕ) (c : Clock) (l : FedLog) (m : Member) (items : List Parcel) : Type 0 where
  pub kept : AreKept (slice_set cs i c) (slice_set ls i l)
  pub state : state_of b (slice_set cs i c) (slice_set ls i l) ≡ with_member s i m items

pub changed : {s : State} {b : Bool} {cs : List Clock} {ls : List FedLog} {i : ℕ} {c : Clock} {l : FedLog} (g : Member → Member) (d : Clock) (k : FedLog) →
    ((m : Member) → (g m).seq ≡ m.seq) → IsFound s b cs ls i c l → IsSeatOf d k (g (member_of c l)) c.queue → IsChanged s b cs ls i d k (g (member_at s i)) s.items
changed {s = s} {b = b} {cs = cs} {ls = ls} {i = i} {c = c} {l = l} g d k same at seat =
    let done = placed b cs ls i d k (g (member_of c l)) c.queue at.kept seat (sym (ap (λ (x : Clock). x.queue) at.clock)) (same (member_of c l) ∙ sym (ap (λ (x : Clock). x.seq) at.clock)) in
    record {
      kept = done.kept;
      state = done.state ∙ (λ t. with_member (at.is t) i (g (at.member t)) ((ap (λ (u : State). u.items) at.is) t));
    }

-- neither a beginning nor a halt changes a sequence number
pub begun_seq : (m : Member) → (begun_member m).seq ≡ m.seq
begun_seq m = by_phase m.time.phase refl
  where
    by_phase : (q : Phase) → m.time.phase ≡ q → (begun_member m).seq ≡ m.seq
    by_phase Created is = rw is refl
    by_phase Initializing is = rw is refl
    by_phase Entering is = rw is refl
    by_phase Running is = rw is refl
    by_phase Waiting is = rw is refl
    by_phase (Ended cause) is = rw is refl

pub halted_seq : (there : Bool) (f : ℕ) (m : Member) → (halted_if there f m).seq ≡ m.seq
halted_seq true f m = elim (cases_Bool (is_live m.time.phase)) [ inl lives ↦ rw lives refl | inr ended ↦ rw ended refl ]
halted_seq false f m = refl

-- with what a cut leaves of it
pub placed_left : (b : Bool) (cs : List Clock) (ls : List FedLog) (i : ℕ) (c : Clock) (l : FedLog) (m : Member) (cut : At) → AreKept cs ls → i < length cs →
    IsSeatOf c l m (filter (λ x. not (is_due cut x)) (clock_at cs i).queue) → m.seq ≡ (clock_at cs i).seq → IsPlaced b cs ls i c l m (filter (is_left i cut) (gathered cs))
placed_left b cs ls i c l m cut kept within seat number =
    let seq : c.seq ≡ (clock_at cs i).seq = ap (λ (x : Member). x.seq) seat.member ∙ number in
    let all : gathered (slice_set cs i c) ≡ filter (is_left i cut) (gathered cs) = left_is i cut cs c kept.queued within seat.queued in
    record {
      kept = record {
        seats = seats_set cs ls i c l kept.seats seat.seat;
        queued = queued_set i cs c kept.queued (λ x among.
            own_queue i cs kept.queued x (in_filter (λ (y : Parcel). not (is_due cut y)) (clock_at cs i).queue x (subst (λ (q : List Parcel). IsIn x q) seat.queued among)).0);
        numbered = λ x among.
            (let less : x.seq < (clock_at cs x.source).seq = kept.numbered x (in_filter (is_left i cut) (gathered cs) x (subst (λ (items : List Parcel). IsIn x items) all among)).0 in
            let stays = seq_stays cs i c x.source seq in
            omega (arith, less, stays));
      };
      state = λ k. record { begun = b; members = (joined_set cs ls i c l kept.seats ∙ ap (slice_set (joined cs ls) i) seat.member) k; items = all k };
    }

-- a grant of a member, made on its clock and its log
pub granted : {s : State} {b : Bool} {cs : List Clock} {ls : List FedLog} {i : ℕ} {c : Clock} {l : FedLog} (d : Clock) (k : FedLog) → IsFound s b cs ls i c l →
    IsSeatOf d k (granted_member (member_of c l) (dues_of c.queue) (filter (is_due (cut_of c.time (dues_of c.queue))) c.queue))
    (filter (λ x. not (is_due (cut_of c.time (dues_of c.queue)) x)) c.queue) →
    IsChanged s b cs ls i d k (granted_member (member_at s i) (dues_to s.items i) (handed_in s i)) (left_in s i)
granted {s = s} {b = b} {cs = cs} {ls = ls} {i = i} {c = c} {l = l} d k at seat =
    let cut : At = cut_of c.time (dues_of c.queue) in
    let queue : c.queue ≡ (clock_at cs i).queue = sym (ap (λ (x : Clock). x.queue) at.clock) in
    let here : IsSeatOf d k (granted_member (member_of c l) (dues_of c.queue) (filter (is_due cut) c.queue)) (filter (λ (x : Parcel). not (is_due cut x)) (clock_at cs i).queue) =
    subst (λ (q : List Parcel). IsSeatOf d k (granted_member (member_of c l) (dues_of c.queue) (filter (is_due cut) c.queue)) (filter (λ (x : Parcel). not (is_due cut x)) q)) queue seat in
    let done = placed_left b cs ls i d k (granted_member (member_of c l) (dues_of c.queue) (filter (is_due cut) c.queue)) cut at.kept at.within here (sym (ap (λ (x : Clock). x.seq) at.clock)) in
    let items : gathered cs ≡ s.items = ap (λ (t : State). t.items) at.is in
    let to : filter (is_to i) s.items ≡ c.queue = ap (filter (is_to i)) (sym items) ∙ queue_is i cs at.kept.queued ∙ sym queue in
    let dues : dues_of c.queue ≡ dues_to s.items i = ap dues_of (sym to) in
    let cuts : cut ≡ cut_in s i = λ t. cut_of (at.member t).time (dues t) in
    let handed : filter (is_due cut) c.queue ≡ handed_in s i =
    ap (filter (is_due cut)) queue ∙ sym (handed_is i cut cs at.kept.queued) ∙ (λ t. filter (is_handed i (cuts t)) (items t)) in
    record {
      kept = done.kept;
      state = done.state ∙ (λ t. with_member (at.is t) i (granted_member (at.member t) (dues t) (handed t)) (filter (is_left i (cuts t)) (items t)));
    }

-- the same where a grant may have wanted for memory
pub granted_kept : {T E : Type 0} (r : Result T E) {s : State} {b : Bool} {cs : List Clock} {ls : List FedLog} {i : ℕ} {c : Clock} {l : FedLog} (d : Clock) (k : FedLog) → IsFound s b cs ls i c l →
    OnOk r (IsSeatOf d k (granted_member (member_of c l) (dues_of c.queue) (filter (is_due (cut_of c.time (dues_of c.queue))) c.queue))
    (filter (λ x. not (is_due (cut_of c.time (dues_of c.queue)) x)) c.queue)) →
    OnErr r (d ≡ c) → OnErr r (k ≡ l) → AreKept (slice_set cs i d) (slice_set ls i k)
granted_kept (Ok done) d k at ok same_clock same_log = (granted d k at ok).kept
granted_kept (Err e) {cs = cs} {ls = ls} {i = i} d k at ok same_clock same_log =
    let clocks : slice_set cs i d ≡ cs = ap (slice_set cs i) (same_clock ∙ sym at.clock) ∙ set-get_or cs i blank_clock in
    let logs : slice_set ls i k ≡ ls = ap (slice_set ls i) (same_log ∙ sym at.log) ∙ set-get_or ls i blank_log in
    subst (λ (xs : List Clock). AreKept xs (slice_set ls i k)) (sym clocks) (subst (λ (xs : List FedLog). AreKept cs xs) (sym logs) at.kept)

pub granted_state : {T E : Type 0} (r : Result T E) {s : State} {b : Bool} {cs : List Clock} {ls : List FedLog} {i : ℕ} {c : Clock} {l : FedLog} (d : Clock) (k : FedLog) → IsFound s b cs ls i c l →
    OnOk r (IsSeatOf d k (granted_member (member_of c l) (dues_of c.queue) (filter (is_due (cut_of c.time (dues_of c.queue))) c.queue))
    (filter (λ x. not (is_due (cut_of c.time (dues_of c.queue)) x)) c.queue)) →
    OnOk r (state_of b (slice_set cs i d) (slice_set ls i k) ≡ with_member s i (granted_member (member_at s i) (dues_to s.items i) (handed_in s i)) (left_in s i))
granted_state (Ok done) d k at ok = (granted d k at ok).state
granted_state (Err e) d k at ok = tt

-- members that are changed one after another
pub members_next : (g : Member → Member) (before now then_is : State) (i : ℕ) → i < length before.members → now ≡ record before { members = map g (take i before.members) ++ drop i before.members } →
    then_is ≡ with_member now i (g (member_at now i)) now.items → then_is ≡ record before { members = map g (take (i + 1) before.members) ++ drop (i + 1) before.members }
members_next g before now then_is i within was is =
    is ∙ ap (λ (s : State). with_member s i (g (member_at s i)) s.items) was
    ∙ (λ k. record before { members = map_next g before.members (map g (take i before.members) ++ drop i before.members) _ i blank_member within refl refl k })

pub members_count : (g : Member → Member) (before now : State) (i : ℕ) → now ≡ record before { members = map g (take i before.members) ++ drop i before.members } →
    length now.members ≡ length before.members
members_count g before now i is = ap (λ (s : State). length s.members) is ∙ count before.members i
  where
    count : (ms : List Member) (k : ℕ) → length (map g (take k ms) ++ drop k ms) ≡ length ms
    count ms zero = refl
    count [] (suc k) = refl
    count (m ∷ ms) (suc k) = ap suc (count ms k)

pub members_all : (g : Member → Member) (before now : State) (i : ℕ) → length before.members ≤ i → now ≡ record before { members = map g (take i before.members) ++ drop i before.members } →
    now ≡ record before { members = map g before.members }
members_all g before now i over is = is ∙ (λ k. record before { members = all before.members i over k })
  where
    all : (ms : List Member) (n : ℕ) → length ms ≤ n → map g (take n ms) ++ drop n ms ≡ map g ms
    all [] zero past = refl
    all [] (suc n) past = refl
    all (m ∷ ms) zero past = absurd (omega arith)
    all (m ∷ ms) (suc n) past = ap (λ (l : List Member). g m ∷ l) (all ms n (omega arith))

pub ruleset seats = (logs_length, joined_length, seat_at, seat_found, joined_at, seats_set, joined_set, logs_joined, new_seats, new_joined, new_kept, none_gathered)
