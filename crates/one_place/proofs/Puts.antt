-- Items that are put into queues, and taken back.
use Rattle.std.proofs.Common.{◌≡◌, inl, inr, ℕ, zero, suc, ◌<◌, Bool, false, List, [], ◌∷◌, ◌++◌, length, take, drop, refl, sym, ◌∙◌, ap, subst, arith, length-set}
use Rattle.std.specs.Prelude.{map, slice_set, slice_index_or, Result, Ok, Err}
use Rattle.std.specs.List.{filter}
use Rattle.std.specs.Result.{OnOk, OnErr}
use Rattle.std.proofs.lemmas.Bool.{cases_Bool, eq-eqb}
use Rattle.std.proofs.lemmas.List.{get_or_default, set-get_or}
use Rattle.hel_lists.specs.Members.{Each}
use Rattle.hel_lists.proofs.Members.{filter_holds, filter_fails}
use Rattle.helics_time.specs.Stamp.{IsDue}
use Rattle.due_queue.specs.Item.{Parcel}
use Rattle.due_queue.specs.Order.{is_sooner, enqueue}
use Rattle.due_queue.specs.Queue.{is_made_otherwise}
use Rattle.due_queue.proofs.Sorted.{insert_by_first, insert_by_later}
use Rattle.time_state.specs.Fed.{IsFed}
use Rattle.one_place.specs.declared.seat.Clock.{Clock}
use Rattle.one_place.specs.Members.{IsClock, AreClocks, blank_clock, clock_at, with_queue, taken_back, put_in}
use Rattle.one_place.proofs.Mapped.{map_at}

-- the clock of a federate keeps what clocks keep
pub clock_in : (cs : List Clock) (t : ℕ) (d : Clock) → AreClocks cs → t < length cs → IsClock (slice_index_or cs t d)
clock_in [] t d are within = absurd (omega arith)
clock_in (c ∷ cs) zero d are within = are.0
clock_in (c ∷ cs) (suc t) d are within = clock_in cs t d are.1 (omega arith)

-- another clock in one place
pub clocks_set : (cs : List Clock) (t : ℕ) (c : Clock) → AreClocks cs → IsClock c → AreClocks (slice_set cs t c)
clocks_set [] t c are is = tt
clocks_set (x ∷ cs) zero c are is = (is, are.1)
clocks_set (x ∷ cs) (suc t) c are is = (are.0, clocks_set cs t c are.1 is)

filter_same_first : (p : Parcel → Bool) (x : Parcel) (xs ys : List Parcel) → filter p xs ≡ filter p ys → filter p (x ∷ xs) ≡ filter p (x ∷ ys)
filter_same_first p x xs ys same = elim (cases_Bool (p x)) [
  | inl holds ↦ filter_holds p x xs holds ∙ ap (λ (l : List Parcel). x ∷ l) same ∙ sym (filter_holds p x ys holds)
  | inr fails ↦ filter_fails p x xs fails ∙ same ∙ sym (filter_fails p x ys fails)
]

-- what is put into a queue and fails a test leaves what passes it
enqueue_skips : (p : Parcel → Bool) (i : Parcel) (xs : List Parcel) → p i ≡ false → filter p (enqueue i xs) ≡ filter p xs
enqueue_skips p i [] fails = filter_fails p i [] fails
enqueue_skips p i (x ∷ xs) fails = elim (cases_Bool (is_sooner i x)) [
  | inl first ↦ ap (filter p) (insert_by_first is_sooner i x xs first) ∙ filter_fails p i (x ∷ xs) fails
  | inr later ↦ ap (filter p) (insert_by_later is_sooner i x xs later) ∙ filter_same_first p x (enqueue i xs) xs (enqueue_skips p i xs fails)
]

taken_set : (source seq : ℕ) (cs : List Clock) (t : ℕ) (c : Clock) → taken_back source seq c ≡ taken_back source seq (clock_at cs t) →
    map (taken_back source seq) (slice_set cs t c) ≡ map (taken_back source seq) cs
taken_set source seq [] t c same = refl
taken_set source seq (x ∷ cs) zero c same = ap (λ (d : Clock). d ∷ map (taken_back source seq) cs) same
taken_set source seq (x ∷ cs) (suc t) c same = ap (λ (ds : List Clock). taken_back source seq x ∷ ds) (taken_set source seq cs t c same)

made_by : (source seq : ℕ) (i : Parcel) → i.source ≡ source → i.seq ≡ seq → is_made_otherwise source seq i ≡ false
made_by source seq i of number = rw (eq-eqb i.source source of, eq-eqb i.seq seq number) refl

-- an item of the call that is put in is taken back with the call
pub put_taken : (source seq : ℕ) (i : Parcel) (cs : List Clock) → i.source ≡ source → i.seq ≡ seq → map (taken_back source seq) (put_in i cs) ≡ map (taken_back source seq) cs
put_taken source seq i cs of number =
    taken_set source seq cs i.target _
    (ap (with_queue (clock_at cs i.target)) (enqueue_skips (is_made_otherwise source seq) i (clock_at cs i.target).queue (made_by source seq i of number)))

-- as many clocks
pub put_length : (i : Parcel) (cs : List Clock) → length (put_in i cs) ≡ length cs
put_length i cs = length-set cs i.target _

-- a clock with another queue keeps its facts
pub queue_clock : (c : Clock) (queue : List Parcel) → IsClock c → Each (λ i. IsDue i.due) queue → IsClock (with_queue c queue)
queue_clock c queue is dues = record { fed = is.fed; dues = dues; event = refl }

-- the clocks after an item was put in
pub put_clocks : (cs : List Clock) (t : ℕ) (c d : Clock) (queue : List Parcel) → AreClocks cs → t < length cs → c ≡ with_queue (slice_index_or cs t d) queue →
    Each (λ i. IsDue i.due) c.queue → AreClocks (slice_set cs t c)
put_clocks cs t c d queue are within is dues =
    clocks_set cs t c are
    (subst IsClock (sym is) (queue_clock (slice_index_or cs t d) queue (clock_in cs t d are within) (subst (λ (x : Clock). Each (λ (i : Parcel). IsDue i.due) x.queue) is dues)))

-- where nothing was put in, they are as before
pub same_clocks : (cs : List Clock) (t : ℕ) (c d : Clock) → c ≡ slice_index_or cs t d → t < length cs → slice_set cs t c ≡ cs
same_clocks cs t c d is within = ap (slice_set cs t) (is ∙ get_or_default cs t d blank_clock within) ∙ set-get_or cs t blank_clock

-- in a list that is taken back up to a place, the clock there keeps its federate's facts
pub rest_fed : (source seq : ℕ) (cs ds : List Clock) (t : ℕ) (d : Clock) → AreClocks cs → t < length cs → ds ≡ map (taken_back source seq) (take t cs) ++ drop t cs →
    IsFed (slice_index_or ds t d).time
rest_fed source seq cs ds t d are within is =
    subst (λ (xs : List Clock). IsFed (slice_index_or xs t d).time) (sym is)
    (subst (λ (c : Clock). IsFed c.time) (sym (map_at (taken_back source seq) cs t d within)) (clock_in cs t d are within).fed)

-- the clocks after a put that may have failed
pub tried_clocks : {T E : Type 0} (r : Result T E) (cs : List Clock) (t : ℕ) (c d : Clock) (queue : List Parcel) → AreClocks cs → t < length cs →
    OnOk r (c ≡ with_queue (slice_index_or cs t d) queue) → OnOk r (Each (λ i. IsDue i.due) c.queue) → OnErr r (c ≡ slice_index_or cs t d) → AreClocks (slice_set cs t c)
tried_clocks (Ok done) cs t c d queue are within ok dues err = put_clocks cs t c d queue are within ok dues
tried_clocks (Err e) cs t c d queue are within ok dues err = subst AreClocks (sym (same_clocks cs t c d err within)) are
