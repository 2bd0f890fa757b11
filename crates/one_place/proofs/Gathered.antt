-- The queues of all federates, one after another, are the machine's one list of items.
use Rattle.std.proofs.Common.{◌≡◌, ◌≢◌, inl, inr, ℕ, zero, suc, ◌+◌, ◌<◌, ◌≤◌, Bool, true, false, not, List, [], ◌∷◌, ◌++◌, length, refl, sym, ◌∙◌, ap, subst, arith}
use Rattle.std.specs.Prelude.{slice_set}
use Rattle.std.specs.List.{filter}
use Rattle.std.proofs.lemmas.Bool.{cases_Bool, eq-eqb, ne_eqb}
use Rattle.std.proofs.lemmas.Bool.Decides.{nat_tests}
use Rattle.std.proofs.lemmas.List.{append-nil}
use Rattle.hel_lists.specs.Members.{IsIn, Each}
use Rattle.helics_time.specs.Stamp.{At}
use Rattle.due_queue.specs.Item.{Parcel, is_to, is_due}
use Rattle.due_queue.specs.Order.{comes_before, is_sooner, insert, enqueue}
use Rattle.due_queue.proofs.Order.{one_target, insert_first, insert_later}
use Rattle.due_queue.proofs.Sorted.{insert_by_first, insert_by_later, insert_by_front}
use Rattle.machine_laws.specs.Machine.{is_handed, is_left}
use Rattle.federation_plan.proofs.Lists.{in_append}
use Rattle.one_place.specs.declared.seat.Clock.{Clock}
use Rattle.interface_names.specs.declared.records.FederateRecord.{FederateRecord}
use Rattle.due_queue.proofs.Dues.{filter_none, filter_each}
use Rattle.machine_laws.proofs.Handed.{not_theirs}
use Rattle.one_place.specs.Members.{AreQueued, new_clocks, clock_at, gathered}

-- an item to a lesser federate comes before one to a greater
lesser_first : (i j : Parcel) → i.target < j.target → comes_before i j ≡ true
unfolding comes_before
lesser_first i j less = grind (arith, nat_tests)

greater_later : (i j : Parcel) → j.target < i.target → comes_before i j ≡ false
unfolding comes_before
greater_later i j less = grind (arith, nat_tests)

-- the items in queues from that of federate f on are to f or to greater federates
gathered_from : (f : ℕ) (cs : List Clock) (i : Parcel) → AreQueued f cs → IsIn i (gathered cs) → f ≤ i.target
unfolding gathered
gathered_from f [] i queued among = absurd among
gathered_from f (c ∷ cs) i queued among = elim (in_append c.queue (gathered cs) i among) [
  | inl first ↦ let own : i.target ≡ f = queued.0 i first in omega (arith, own)
  | inr second ↦ let more = gathered_from (suc f) cs i queued.1 second in omega (arith, more)
]

-- an item goes behind the queues of lesser federates
insert_past : (i : Parcel) (xs ys : List Parcel) → Each (λ x. x.target < i.target) xs → insert i (xs ++ ys) ≡ xs ++ insert i ys
insert_past i [] ys less = refl
insert_past i (x ∷ xs) ys less =
    insert_later i x (xs ++ ys) (greater_later i x (less x (inl refl)))
    ∙ ap (λ (l : List Parcel). x ∷ l) (insert_past i xs ys (λ y among. less y (inr among)))

-- into the queue of its own federate, and ahead of those of greater ones
insert_here : (i : Parcel) (xs ys : List Parcel) → Each (λ x. x.target ≡ i.target) xs → Each (λ y. i.target < y.target) ys → insert i (xs ++ ys) ≡ enqueue i xs ++ ys
insert_here i [] ys own more = insert_by_front comes_before i ys (λ y among. lesser_first i y (more y among))
insert_here i (x ∷ xs) ys own more =
    let alike = one_target i x (sym (own x (inl refl))) in
    elim (cases_Bool (comes_before i x)) [
      | inl first ↦
          insert_first i x (xs ++ ys) first
          ∙ ap (λ (l : List Parcel). l ++ ys) (sym (insert_by_first is_sooner i x xs (sym alike ∙ first)))
      | inr later ↦
          insert_later i x (xs ++ ys) later
          ∙ ap (λ (l : List Parcel). x ∷ l) (insert_here i xs ys (λ y among. own y (inr among)) more)
          ∙ ap (λ (l : List Parcel). l ++ ys) (sym (insert_by_later is_sooner i x xs (sym alike ∙ later)))
    ]

-- what is put into the queue of its target is inserted into the whole list
put_from : (b t : ℕ) (cs : List Clock) (c : Clock) (i : Parcel) → AreQueued b cs → t < length cs → i.target ≡ t + b → c.queue ≡ enqueue i (clock_at cs t).queue →
    gathered (slice_set cs t c) ≡ insert i (gathered cs)
unfolding gathered
put_from b t [] c i queued within to is = absurd (omega arith)
put_from b zero (x ∷ cs) c i queued within to is =
    ap (λ (l : List Parcel). l ++ gathered cs) is
    ∙ sym (insert_here i x.queue (gathered cs) (λ j among. queued.0 j among ∙ omega arith) (λ j among. let from = gathered_from (suc b) cs j queued.1 among in omega (arith, from)))
put_from b (suc t) (x ∷ cs) c i queued within to is =
    ap (λ (l : List Parcel). x.queue ++ l) (put_from (suc b) t cs c i queued.1 (omega arith) (omega arith) is)
    ∙ sym (insert_past i x.queue (gathered cs) (λ j among. let own : j.target ≡ b = queued.0 j among in omega (arith, own)))

pub gathered_put : (t : ℕ) (cs : List Clock) (c : Clock) (i : Parcel) → AreQueued 0 cs → t < length cs → i.target ≡ t → c.queue ≡ enqueue i (clock_at cs t).queue →
    gathered (slice_set cs t c) ≡ insert i (gathered cs)
gathered_put t cs c i queued within to is = put_from 0 t cs c i queued within (omega arith) is

-- another queue in one place that keeps to its federate
queued_from : (b t f : ℕ) (cs : List Clock) (c : Clock) → f ≡ t + b → AreQueued b cs → Each (λ i. i.target ≡ f) c.queue → AreQueued b (slice_set cs t c)
queued_from b t f [] c is queued each = tt
queued_from b zero f (x ∷ cs) c is queued each = let same : f ≡ b = omega arith in (subst (λ (g : ℕ). Each (λ (i : Parcel). i.target ≡ g) c.queue) same each, queued.1)
queued_from b (suc t) f (x ∷ cs) c is queued each = (queued.0, queued_from (suc b) t f cs c (omega arith) queued.1 each)

pub queued_set : (t : ℕ) (cs : List Clock) (c : Clock) → AreQueued 0 cs → Each (λ i. i.target ≡ t) c.queue → AreQueued 0 (slice_set cs t c)
queued_set t cs c queued each = queued_from 0 t t cs c (omega arith) queued each

-- the items in the queue of a federate are to it
own_from : (b t f : ℕ) (cs : List Clock) → f ≡ t + b → AreQueued b cs → Each (λ i. i.target ≡ f) (clock_at cs t).queue
own_from b t f [] is queued i among = absurd among
own_from b zero f (x ∷ cs) is queued i among = queued.0 i among ∙ omega arith
own_from b (suc t) f (x ∷ cs) is queued i among = own_from (suc b) t f cs (omega arith) queued.1 i among

pub own_queue : (t : ℕ) (cs : List Clock) → AreQueued 0 cs → Each (λ i. i.target ≡ t) (clock_at cs t).queue
own_queue t cs queued = own_from 0 t t cs (omega arith) queued

-- a filter of two lists, and one that keeps all or nothing
filter_joined : (p : Parcel → Bool) (xs ys : List Parcel) → filter p (xs ++ ys) ≡ filter p xs ++ filter p ys
filter_joined p [] ys = refl
filter_joined p (x ∷ xs) ys = elim (cases_Bool (p x)) [
  | inl holds ↦ rw holds (ap (λ (l : List Parcel). x ∷ l) (filter_joined p xs ys))
  | inr fails ↦ rw fails (filter_joined p xs ys)
]

-- two filters that agree on a list
filter_alike : (p q : Parcel → Bool) (xs : List Parcel) → Each (λ x. p x ≡ q x) xs → filter p xs ≡ filter q xs
filter_alike p q [] alike = refl
filter_alike p q (x ∷ xs) alike =
    let more = filter_alike p q xs (λ y among. alike y (inr among)) in
    elim (cases_Bool (q x)) [
      | inl holds ↦ rw (alike x (inl refl) ∙ holds, holds) (ap (λ (l : List Parcel). x ∷ l) more)
      | inr fails ↦ rw (alike x (inl refl) ∙ fails, fails) more
    ]

-- what keeps items to one federate alone finds them in its queue
filter_from : (b t f : ℕ) (p : Parcel → Bool) (cs : List Clock) → f ≡ t + b → AreQueued b cs → ((i : Parcel) → i.target ≢ f → p i ≡ false) →
    filter p (gathered cs) ≡ filter p (clock_at cs t).queue
unfolding gathered
filter_from b t f p [] is queued only = refl
filter_from b zero f p (x ∷ cs) is queued only =
    filter_joined p x.queue (gathered cs)
    ∙ ap (λ (l : List Parcel). filter p x.queue ++ l)
    (filter_none p (gathered cs) (λ j among. only j (λ same. let from = gathered_from (suc b) cs j queued.1 among in absurd (omega (arith, from, same)))))
    ∙ append-nil (filter p x.queue)
filter_from b (suc t) f p (x ∷ cs) is queued only =
    filter_joined p x.queue (gathered cs)
    ∙ ap (λ (l : List Parcel). l ++ filter p (gathered cs)) (filter_none p x.queue (λ j among. only j (λ same. let own : j.target ≡ b = queued.0 j among in absurd (omega (arith, own, same)))))
    ∙ filter_from (suc b) t f p cs (omega arith) queued.1 only

-- the items to a federate are its queue
pub queue_is : (t : ℕ) (cs : List Clock) → AreQueued 0 cs → filter (is_to t) (gathered cs) ≡ (clock_at cs t).queue
queue_is t cs queued =
    filter_from 0 t t (is_to t) cs (omega arith) queued (λ i other. ne_eqb i.target t other)
    ∙ filter_each (is_to t) (clock_at cs t).queue (λ i among. eq-eqb i.target t (own_queue t cs queued i among))

handed_own : (f : ℕ) (cut : At) (i : Parcel) → i.target ≡ f → is_handed f cut i ≡ is_due cut i
handed_own f cut i own = rw (eq-eqb i.target f own) refl

-- what a cut hands over to it are the due ones of its queue
pub handed_is : (t : ℕ) (cut : At) (cs : List Clock) → AreQueued 0 cs → filter (is_handed t cut) (gathered cs) ≡ filter (is_due cut) (clock_at cs t).queue
handed_is t cut cs queued =
    filter_from 0 t t (is_handed t cut) cs (omega arith) queued (λ i other. not_theirs t cut i other)
    ∙ filter_alike (is_handed t cut) (is_due cut) (clock_at cs t).queue (λ i among. handed_own t cut i (own_queue t cs queued i among))

-- and what it leaves is everything where its queue is left with the others
left_from : (b t f : ℕ) (cut : At) (cs : List Clock) (c : Clock) → f ≡ t + b → AreQueued b cs → t < length cs → c.queue ≡ filter (λ i. not (is_due cut i)) (clock_at cs t).queue →
    gathered (slice_set cs t c) ≡ filter (is_left f cut) (gathered cs)
unfolding gathered
left_from b t f cut [] c is queued within left = absurd (omega arith)
left_from b zero f cut (x ∷ cs) c is queued within left =
    let own = filter_alike (is_left f cut) (λ (i : Parcel). not (is_due cut i)) x.queue (λ i among. ap not (handed_own f cut i (queued.0 i among ∙ omega arith))) in
    let rest = filter_each (is_left f cut) (gathered cs) (λ i among. let from = gathered_from (suc b) cs i queued.1 among in ap not (not_theirs f cut i (λ same. absurd (omega (arith, from, same))))) in
    ap (λ (l : List Parcel). l ++ gathered cs) (left ∙ sym own) ∙ ap (λ (l : List Parcel). filter (is_left f cut) x.queue ++ l) (sym rest)
    ∙ sym (filter_joined (is_left f cut) x.queue (gathered cs))
left_from b (suc t) f cut (x ∷ cs) c is queued within left =
    let here = filter_each (is_left f cut) x.queue (λ i among. let own : i.target ≡ b = queued.0 i among in ap not (not_theirs f cut i (λ same. absurd (omega (arith, own, same))))) in
    ap (λ (l : List Parcel). x.queue ++ l) (left_from (suc b) t f cut cs c (omega arith) queued.1 (omega arith) left)
    ∙ ap (λ (l : List Parcel). l ++ filter (is_left f cut) (gathered cs)) (sym here)
    ∙ sym (filter_joined (is_left f cut) x.queue (gathered cs))

pub left_is : (t : ℕ) (cut : At) (cs : List Clock) (c : Clock) → AreQueued 0 cs → t < length cs → c.queue ≡ filter (λ i. not (is_due cut i)) (clock_at cs t).queue →
    gathered (slice_set cs t c) ≡ filter (is_left t cut) (gathered cs)
left_is t cut cs c queued within left = left_from 0 t t cut cs c (omega arith) queued within left

-- a clock with the same queue in the place of another leaves the list as it is
pub gathered_same : (t : ℕ) (cs : List Clock) (c : Clock) → c.queue ≡ (clock_at cs t).queue → gathered (slice_set cs t c) ≡ gathered cs
unfolding gathered
gathered_same t [] c same = refl
gathered_same zero (x ∷ cs) c same = ap (λ (l : List Parcel). l ++ gathered cs) same
gathered_same (suc t) (x ∷ cs) c same = ap (λ (l : List Parcel). x.queue ++ l) (gathered_same t cs c same)

-- no federate has items at the beginning
pub none_gathered : (feds : List FederateRecord) → gathered (new_clocks feds) ≡ []
unfolding gathered
none_gathered [] = refl
none_gathered (fed ∷ feds) = none_gathered feds

pub none_queued : (f : ℕ) (feds : List FederateRecord) → AreQueued f (new_clocks feds)
none_queued f [] = tt
none_queued f (fed ∷ feds) = ((λ i none. absurd none), none_queued (suc f) feds)
