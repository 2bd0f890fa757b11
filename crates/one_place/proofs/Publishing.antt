-- A call that sends: its items in the queues of their targets, and the next sequence number.
use Rattle.std.proofs.Common.{◌≡◌, inl, inr, ℕ, zero, suc, ◌+◌, ◌<◌, ◌^◌, Bool, true, false, not, List, [], ◌∷◌, length, refl, sym, ◌∙◌, ap, subst, arith}
use Rattle.std.specs.Prelude.{map, slice_set, slice_index_or, ◌==◌, ◌&&◌, Result, Ok, Err, None}
use Rattle.std.specs.List.{filter}
use Rattle.std.specs.Result.{OnOk, OnErr}
use Rattle.std.proofs.lemmas.Bool.{cases_Bool, eqb-true, false≢true}
use Rattle.std.proofs.lemmas.List.{get_or_default, get_or-set_same}
use Rattle.hel_lists.specs.Members.{IsIn, Each}
use Rattle.due_queue.specs.Item.{Parcel, is_made_by}
use Rattle.due_queue.specs.Order.{is_sooner, insert_all}
use Rattle.due_queue.specs.Queue.{is_made_otherwise}
use Rattle.due_queue.proofs.Sorted.{in_insert_by}
use Rattle.due_queue.proofs.Order.{in_insert_all}
use Rattle.time_state.specs.Fed.{Fed}
use Rattle.machine_laws.specs.declared.logs.FedLog.{FedLog}
use Rattle.machine_laws.specs.Machine.{Member, State, blank_member, member_at, limit_refusal, with_member, called_member, end_of}
use Rattle.one_place.specs.declared.seat.Clock.{Clock}
use Rattle.one_place.specs.Members.{member_of, IsClock, AreSeats, AreClocks, AreQueued, AreKept, AreMade, joined, gathered, state_of, blank_clock, clock_at, log_at, with_queue, taken_back, called_at, put_in, put_all}
use Rattle.federation_plan.proofs.Lists.{append_left, append_right}
use Rattle.one_place.proofs.Gathered.{gathered_put, gathered_same, queued_set, own_queue}
use Rattle.one_place.proofs.Events.{sends_few}
use Rattle.one_place.proofs.Puts.{clock_in, put_length, clocks_set}
use Rattle.due_queue.proofs.Dues.{filter_each}
use Rattle.one_place.proofs.Seats.{clocks_of, joined_length, member_is, seq_stays}

-- each log ends as its federate stands
AreEnds : List Clock → List FedLog → Type 0
AreEnds [] [] = Unit {0}
AreEnds (c ∷ cs) (l ∷ ls) = (l.end ≡ end_of (member_of c l)) × AreEnds cs ls
AreEnds cs ls = ⊥

ends_of : (cs : List Clock) (ls : List FedLog) → AreSeats cs ls → AreEnds cs ls
unfolding AreEnds
ends_of [] [] seats = tt
ends_of [] (l ∷ ls) seats = absurd seats
ends_of (c ∷ cs) [] seats = absurd seats
ends_of (c ∷ cs) (l ∷ ls) seats = (seats.0.ends, ends_of cs ls seats.1)

seats_from : (cs : List Clock) (ls : List FedLog) → AreClocks cs → AreEnds cs ls → AreSeats cs ls
unfolding AreEnds
seats_from [] [] clocks ends = tt
seats_from [] (l ∷ ls) clocks ends = absurd ends
seats_from (c ∷ cs) [] clocks ends = absurd ends
seats_from (c ∷ cs) (l ∷ ls) clocks ends = (record { clock = clocks.0; ends = ends.0 }, seats_from cs ls clocks.1 ends.1)

-- a clock with the same time leaves how the logs end, and with the same number the members too
ends_set : (cs : List Clock) (ls : List FedLog) (t : ℕ) (c : Clock) → c.time ≡ (clock_at cs t).time → AreEnds cs ls → AreEnds (slice_set cs t c) ls
unfolding AreEnds
ends_set [] [] t c same ends = tt
ends_set [] (l ∷ ls) t c same ends = absurd ends
ends_set (x ∷ cs) [] t c same ends = absurd ends
ends_set (x ∷ cs) (l ∷ ls) zero c same ends = (ends.0 ∙ ap (λ (f : Fed). end_of (record { time = f; seq = x.seq; log = l.entries; text = (member_of x l).text })) (sym same), ends.1)
ends_set (x ∷ cs) (l ∷ ls) (suc t) c same ends = (ends.0, ends_set cs ls t c same ends.1)

joined_same : (cs : List Clock) (ls : List FedLog) (t : ℕ) (c : Clock) → c.time ≡ (clock_at cs t).time → c.seq ≡ (clock_at cs t).seq → joined (slice_set cs t c) ls ≡ joined cs ls
unfolding joined
joined_same [] ls t c time seq = refl
joined_same (x ∷ cs) [] zero c time seq = refl
joined_same (x ∷ cs) [] (suc t) c time seq = refl
joined_same (x ∷ cs) (l ∷ ls) zero c time seq = λ k. record { time = time k; seq = seq k; log = l.entries; text = (member_of x l).text } ∷ joined cs ls
joined_same (x ∷ cs) (l ∷ ls) (suc t) c time seq = ap (λ (ms : List Member). member_of x l ∷ ms) (joined_same cs ls t c time seq)

-- what puts leave as it was, and what they do to the list of all items
record IsPut (cs : List Clock) (ls : List FedLog) (ds : List Clock) (items : List Parcel) : Type 0 where
  pub count : length ds ≡ length cs
  pub members : joined ds ls ≡ joined cs ls
  pub ends : AreEnds ds ls
  pub queued : AreQueued 0 ds
  pub gathered : gathered ds ≡ insert_all items (gathered cs)
  pub seqs : (k : ℕ) → (clock_at ds k).seq ≡ (clock_at cs k).seq

own_put : (cs : List Clock) (i : Parcel) → AreQueued 0 cs → AreQueued 0 (put_in i cs)
own_put cs i queued =
    queued_set i.target cs _ queued (λ x among. elim (in_insert_by is_sooner i (clock_at cs i.target).queue x among) [
      | inl here ↦ ap (λ (y : Parcel). y.target) here
      | inr old ↦ own_queue i.target cs queued x old
    ])

all_put : (items : List Parcel) (cs : List Clock) (ls : List FedLog) → AreEnds cs ls → AreQueued 0 cs → Each (λ i. i.target < length cs) items → IsPut cs ls (put_all items cs) items
all_put [] cs ls ends queued within = record { count = refl; members = refl; ends = ends; queued = queued; gathered = refl; seqs = λ k. refl }
all_put (i ∷ items) cs ls ends queued within =
    let count = put_length i cs in
    let more = all_put items (put_in i cs) ls (ends_set cs ls i.target _ refl ends) (own_put cs i queued) (λ x among. let less = within x (inr among) in omega (arith, less, count)) in
    record {
      count = more.count ∙ count;
      members = more.members ∙ joined_same cs ls i.target _ refl refl;
      ends = more.ends;
      queued = more.queued;
      gathered = more.gathered ∙ ap (insert_all items) (gathered_put i.target cs _ i queued (within i (inl refl)) refl refl);
      seqs = λ k. more.seqs k ∙ seq_stays cs i.target _ k refl;
    }

-- a member is its clock with its log
member_from : (cs : List Clock) (ls : List FedLog) (f : ℕ) → AreEnds cs ls → f < length cs → slice_index_or (joined cs ls) f blank_member ≡ member_of (clock_at cs f) (log_at ls f)
unfolding joined AreEnds
member_from [] ls f ends within = absurd (omega arith)
member_from (c ∷ cs) [] f ends within = absurd ends
member_from (c ∷ cs) (l ∷ ls) zero ends within = refl
member_from (c ∷ cs) (l ∷ ls) (suc f) ends within = member_from cs ls f ends.1 (omega arith)

-- the number of a federate that rises
seq_rises : (cs : List Clock) (t : ℕ) (c : Clock) (k n : ℕ) → c.seq ≡ (clock_at cs t).seq + 1 → n < (clock_at cs k).seq → n < (clock_at (slice_set cs t c) k).seq
seq_rises [] t c k n rises less = less
seq_rises (x ∷ cs) zero c zero n rises less = omega (arith, rises, less)
seq_rises (x ∷ cs) zero c (suc k) n rises less = less
seq_rises (x ∷ cs) (suc t) c zero n rises less = less
seq_rises (x ∷ cs) (suc t) c (suc k) n rises less = seq_rises cs t c k n rises less

joined_clock : (cs : List Clock) (ls : List FedLog) (t : ℕ) (c : Clock) → joined (slice_set cs t c) ls ≡ slice_set (joined cs ls) t (member_of c (log_at ls t))
unfolding joined
joined_clock [] ls t c = refl
joined_clock (x ∷ cs) [] zero c = refl
joined_clock (x ∷ cs) [] (suc t) c = refl
joined_clock (x ∷ cs) (l ∷ ls) zero c = refl
joined_clock (x ∷ cs) (l ∷ ls) (suc t) c = ap (λ (ms : List Member). member_of x l ∷ ms) (joined_clock cs ls t c)

-- the clocks after a call that sends
called_clock : (c : Clock) → IsClock c → IsClock (record c { seq = c.seq + 1 })
called_clock c is = record { fed = is.fed; dues = is.dues; event = is.event }

pub called_clocks : (f : ℕ) (cs : List Clock) (d : Clock) → AreClocks cs → f < length cs →
    AreClocks (slice_set cs f (record (slice_index_or cs f d) { seq = (slice_index_or cs f d).seq + 1 }))
called_clocks f cs d are within = clocks_set cs f _ are (called_clock (slice_index_or cs f d) (clock_in cs f d are within))

-- puts leave a federate's number
put_seq : (items : List Parcel) (cs : List Clock) (k : ℕ) → (clock_at (put_all items cs) k).seq ≡ (clock_at cs k).seq
put_seq [] cs k = refl
put_seq (i ∷ items) cs k = put_seq items (put_in i cs) k ∙ seq_stays cs i.target _ k refl

pub put_number : (items : List Parcel) (cs ds : List Clock) (f : ℕ) (d : Clock) → ds ≡ put_all items cs → f < length ds → (slice_index_or ds f d).seq ≡ (clock_at cs f).seq
put_number items cs ds f d is within =
    ap (λ (c : Clock). c.seq) (get_or_default ds f d blank_clock within) ∙ ap (λ (xs : List Clock). (clock_at xs f).seq) is ∙ put_seq items cs f

-- no item of a federate's next call stands in a queue
none_made : (cs : List Clock) (f : ℕ) (items : List Parcel) → Each (λ i. i.seq < (clock_at cs i.source).seq) items → filter (is_made_otherwise f (clock_at cs f).seq) items ≡ items
none_made cs f items numbered = filter_each (is_made_otherwise f (clock_at cs f).seq) items (λ i among.
    elim (cases_Bool (is_made_by f (clock_at cs f).seq i)) [
      | inl made ↦
          let both = split (i.source == f) (i.seq == (clock_at cs f).seq) made in
          let of : i.source ≡ f = eqb-true i.source f both.0 in
          let number : i.seq ≡ (clock_at cs f).seq = eqb-true i.seq (clock_at cs f).seq both.1 in
          let less : i.seq < (clock_at cs i.source).seq = numbered i among in
          let same : (clock_at cs i.source).seq ≡ (clock_at cs f).seq = ap (λ k. (clock_at cs k).seq) of in
          absurd (omega (arith, less, same, number))
      | inr other ↦ ap not other
    ])
  where
    split : (a b : Bool) → (a && b) ≡ true → (a ≡ true) × (b ≡ true)
    split true b both = (refl, both)
    split false b both = absurd (false≢true both)

new_from : (cs : List Clock) (f : ℕ) (ds : List Clock) (ls : List FedLog) → AreSeats ds ls → ((i : Parcel) → IsIn i (gathered ds) → i.seq < (clock_at cs i.source).seq) →
    map (taken_back f (clock_at cs f).seq) ds ≡ ds
unfolding gathered
new_from cs f [] ls seats numbered = refl
new_from cs f (d ∷ ds) [] seats numbered = absurd seats
new_from cs f (d ∷ ds) (l ∷ ls) seats numbered =
    let queue : filter (is_made_otherwise f (clock_at cs f).seq) d.queue ≡ d.queue = none_made cs f d.queue (λ i among. numbered i (append_left d.queue (gathered ds) i among)) in
    let own : taken_back f (clock_at cs f).seq d ≡ d = ap (with_queue d) queue ∙ (λ k. record d { event = sym seats.0.clock.event k }) in
    (λ k. own k ∷ new_from cs f ds ls seats.1 (λ i among. numbered i (append_right d.queue (gathered ds) i among)) k)

pub nothing_made : (cs : List Clock) (ls : List FedLog) (f : ℕ) → AreKept cs ls → map (taken_back f (clock_at cs f).seq) cs ≡ cs
nothing_made cs ls f kept = new_from cs f cs ls kept.seats kept.numbered

-- the state after a call that sends
pub record IsPublished (s : State) (b : Bool) (ds : List Clock) (ls : List FedLog) (f : ℕ) (items : List Parcel) : Type 0 where
  pub kept : AreKept ds ls
  pub state : state_of b ds ls ≡ with_member s f (called_member (member_at s f)) (insert_all items s.items)

pub published : (s : State) (b : Bool) (cs ds : List Clock) (ls : List FedLog) (f : ℕ) (items : List Parcel) → AreKept cs ls → state_of b cs ls ≡ s → f < length cs →
    AreMade (length cs) f (clock_at cs f).seq items → ds ≡ called_at f (put_all items cs) → AreClocks ds → IsPublished s b ds ls f items
published s b cs ds ls f items kept is within made now clocks =
    let ps : List Clock = put_all items cs in
    let es : List Clock = called_at f ps in
    let put = all_put items cs ls (ends_of cs ls kept.seats) kept.queued (λ i among. (made i among).0) in
    let count : length ps ≡ length cs = put.count in
    let seq : (clock_at ps f).seq ≡ (clock_at cs f).seq = put.seqs f in
    let next : (clock_at es f).seq ≡ (clock_at ps f).seq + 1 =
    ap (λ (c : Clock). c.seq) (get_or-set_same ps f (record (clock_at ps f) { seq = (clock_at ps f).seq + 1 }) blank_clock (omega (arith, within, count))) in
    let all : gathered es ≡ insert_all items (gathered cs) = gathered_same f ps _ refl ∙ put.gathered in
    let here : member_of (clock_at ps f) (log_at ls f) ≡ member_at (state_of b cs ls) f =
    sym (member_from ps ls f put.ends (omega (arith, within, count))) ∙ ap (λ (ms : List Member). slice_index_or ms f blank_member) put.members in
    let members : joined es ls ≡ slice_set (joined cs ls) f (called_member (member_at (state_of b cs ls) f)) =
    joined_clock ps ls f _ ∙ (λ k. slice_set (put.members k) f (called_member (here k))) in
    let there : AreClocks es = subst AreClocks now clocks in
    let numbered : Each (λ i. i.seq < (clock_at es i.source).seq) (gathered es) = λ i among.
    (elim (in_insert_all items (gathered cs) i (subst (λ (xs : List Parcel). IsIn i xs) all among)) [
      | inl new ↦
          let m = made i new in
          let own : (clock_at es i.source).seq ≡ (clock_at es f).seq = ap (λ k. (clock_at es k).seq) m.1 in
          let number : i.seq ≡ (clock_at cs f).seq = m.2 in
          omega (arith, own, number, next, seq)
      | inr old ↦
          let less : i.seq < (clock_at cs i.source).seq = kept.numbered i old in
          let same : (clock_at ps i.source).seq ≡ (clock_at cs i.source).seq = put.seqs i.source in
          seq_rises ps f (record (clock_at ps f) { seq = (clock_at ps f).seq + 1 }) i.source i.seq refl (omega (arith, less, same))
    ]) in
    let done : IsPublished s b es ls f items = record {
      kept = record {
        seats = seats_from es ls there (ends_set ps ls f _ refl put.ends);
        queued = queued_set f ps _ put.queued (own_queue f ps put.queued);
        numbered = numbered;
      };
      state = (λ k. record { begun = b; members = members k; items = all k }) ∙ (λ k. with_member (is k) f (called_member (member_at (is k) f)) (insert_all items (is k).items));
    } in
    subst (λ (xs : List Clock). IsPublished s b xs ls f items) (sym now) done

-- what the clocks must be for a call that makes these items
pub record MayCall (cs : List Clock) (f : ℕ) (items : List Parcel) : Type 0 where
  pub within : f < length cs
  pub clocks : AreClocks cs
  pub count : (clock_at cs f).seq < 2 ^ 32
  pub made : AreMade (length cs) f (clock_at cs f).seq items
  pub new : map (taken_back f (clock_at cs f).seq) cs ≡ cs

of_kept : (s : State) (b : Bool) (cs : List Clock) (ls : List FedLog) (f : ℕ) (items : List Parcel) → AreKept cs ls → state_of b cs ls ≡ s → f < length s.members →
    limit_refusal (member_at s f) ≡ None → AreMade (length s.members) f (member_at s f).seq items → MayCall cs f items
of_kept s b cs ls f items kept is known limits made =
    let same = joined_length cs ls kept.seats in
    let all : length (joined cs ls) ≡ length s.members = ap (λ (t : State). length t.members) is in
    let within : f < length cs = omega (arith, same, all, known) in
    let member : member_of (clock_at cs f) (log_at ls f) ≡ member_at s f = sym (member_is b cs ls f kept within) ∙ ap (λ (t : State). member_at t f) is in
    let seq : (clock_at cs f).seq ≡ (member_at s f).seq = ap (λ (m : Member). m.seq) member in
    record {
      within = within;
      clocks = clocks_of cs ls kept.seats;
      count = sends_few (clock_at cs f).time (clock_at cs f).seq (ap limit_refusal member ∙ limits);
      made = λ i among. (let m = made i among in let less : i.target < length s.members = m.0 in (omega (arith, less, same, all), m.1, m.2 ∙ sym seq));
      new = nothing_made cs ls f kept;
    }

-- over clocks that are those of the state
pub may_call : (s : State) (b : Bool) (cs xs : List Clock) (ls : List FedLog) (f : ℕ) (items : List Parcel) → xs ≡ cs → AreKept cs ls → state_of b cs ls ≡ s → f < length s.members →
    limit_refusal (member_at s f) ≡ None → AreMade (length s.members) f (member_at s f).seq items → MayCall xs f items
may_call s b cs xs ls f items lent kept is known limits made =
    subst (λ (ys : List Clock). MayCall ys f items) (sym lent) (of_kept s b cs ls f items kept is known limits made)

-- the state after a call for which memory may have been wanting
pub record IsTried {T E : Type 0} (r : Result T E) (s : State) (b : Bool) (ds : List Clock) (ls : List FedLog) (f : ℕ) (items : List Parcel) : Type 0 where
  pub kept : AreKept ds ls
  pub state : OnOk r (state_of b ds ls ≡ with_member s f (called_member (member_at s f)) (insert_all items s.items))
  pub same : OnErr r (state_of b ds ls ≡ s)

by_result : {T E : Type 0} (r : Result T E) (s : State) (b : Bool) (cs ds : List Clock) (ls : List FedLog) (f : ℕ) (items : List Parcel) → AreKept cs ls →
    state_of b cs ls ≡ s → MayCall cs f items → OnOk r (ds ≡ called_at f (put_all items cs)) → OnOk r (AreClocks ds) → OnErr r (ds ≡ cs) → IsTried r s b ds ls f items
by_result (Ok done) s b cs ds ls f items kept is may now clocks err =
    let done = published s b cs ds ls f items kept is may.within may.made now clocks in
    record { kept = done.kept; state = done.state; same = tt }
by_result (Err e) s b cs ds ls f items kept is may now clocks err =
    record { kept = subst (λ (xs : List Clock). AreKept xs ls) (sym err) kept; state = tt; same = ap (λ (xs : List Clock). state_of b xs ls) err ∙ is }

-- where the clocks were lent and put back
pub tried : {T E : Type 0} (r : Result T E) (s : State) (b : Bool) (cs xs ds es : List Clock) (ls : List FedLog) (f : ℕ) (items : List Parcel) → xs ≡ cs → es ≡ ds → AreKept cs ls →
    state_of b cs ls ≡ s → MayCall xs f items → OnOk r (ds ≡ called_at f (put_all items xs)) → OnOk r (AreClocks ds) → OnErr r (ds ≡ xs) → IsTried r s b es ls f items
tried r s b cs xs ds es ls f items lent back kept is may now clocks err =
    subst (λ (ys : List Clock). IsTried r s b ys ls f items) (sym back)
    (by_result r s b xs ds ls f items (subst (λ (ys : List Clock). AreKept ys ls) (sym lent) kept) (ap (λ (ys : List Clock). state_of b ys ls) lent ∙ is) may now clocks err)
