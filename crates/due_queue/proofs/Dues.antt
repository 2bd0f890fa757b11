-- What the calls of a queue do to a list in its order.
use Rattle.std.proofs.Common.{◌≡◌, inl, inr, ℕ, zero, suc, ◌+◌, ◌<◌, ◌≤◌, Bool, true, false, not, arith, refl, sym, ◌∙◌, ap, subst, List, [], ◌∷◌, ◌++◌, length, take, get_or}
use Rattle.std.specs.Prelude.{nat_lt, ◌==◌, ◌&&◌, ◌||◌, insert, count_by, IfSome, Option, Some, None}
use Rattle.std.specs.Option.{option_to_list, ForSome}
use Rattle.std.proofs.lemmas.List.Filters.{length-filter_both}
use Rattle.std.proofs.lemmas.List.Sums.{length-filter}
use Rattle.std.specs.List.{filter, AllWithin}
use Rattle.std.specs.List.Sorted.{IsPartitionedBy}
use Rattle.std.proofs.lemmas.Bool.{cases_Bool, true≢false, false≢true, not-true, not-false}
use Rattle.std.proofs.lemmas.Bool.Decides.{nat_tests}
use Rattle.hel_lists.specs.Members.{Each}
use Rattle.hel_lists.proofs.Members.{at_in, in_filter, filter_holds, filter_fails}
use Rattle.helics_time.specs.Stamp.{At, IsDue, at_most}
use Rattle.due_queue.specs.Item.{Parcel, is_due}
use Rattle.due_queue.specs.Order.{is_sooner, InDueOrder, enqueue}
use Rattle.due_queue.specs.Queue.{IsQueue, IsPutIn, first_due, is_first_due}
use Rattle.due_queue.proofs.Sorted.{before_each, in_insert_by, insert_by_first, insert_by_later, insert_by_in_order, filter_in_order}
use Rattle.due_queue.proofs.Order.{is_sooner_order}

-- none is sooner than itself
pub not_itself : (x : Parcel) → is_sooner x x ≡ false
not_itself x = elim (cases_Bool (is_sooner x x)) [ inl holds ↦ is_sooner_order.one_way x x holds | inr fails ↦ fails ]

-- what isn't sooner isn't due earlier
pub due_at_most : (i j : Parcel) → is_sooner j i ≡ false → at_most i.due j.due ≡ true
unfolding is_sooner
due_at_most i j fails = step i.due.time i.due.micro j.due.time j.due.micro _ fails
  where
    step : (t m u n : ℕ) (p : Bool) → (nat_lt u t || (u == t && (nat_lt n m || (n == m && p)))) ≡ false → (nat_lt t u || (t == u && (nat_lt m n || m == n))) ≡ true
    step t m u n p fails = grind (arith, nat_tests)

-- a stamp is at most itself
pub at_most_same : (s : At) → at_most s s ≡ true
at_most_same s = step s.time s.micro
  where
    step : (t m : ℕ) → (nat_lt t t || (t == t && (nat_lt m m || m == m))) ≡ true
    step t m = grind (arith, nat_tests)

-- a stamp that is at most another is at most all that this one is at most
at_most_trans : (a b c : At) → at_most a b ≡ true → at_most b c ≡ true → at_most a c ≡ true
at_most_trans a b c first second = step a.time a.micro b.time b.micro c.time c.micro first second
  where
    step : (t m u n v o : ℕ) → (nat_lt t u || (t == u && (nat_lt m n || m == n))) ≡ true → (nat_lt u v || (u == v && (nat_lt n o || n == o))) ≡ true → (nat_lt t v || (t == v && (nat_lt m o || m == o))) ≡ true
    step t m u n v o first second = grind (arith, nat_tests)

-- the first has the least due
pub first_least : (i : Parcel) (items : List Parcel) → InDueOrder (i ∷ items) → Each (λ j. at_most i.due j.due ≡ true) (i ∷ items)
first_least i items order = λ j among. elim among [
  | inl here ↦ ap (λ (k : Parcel). at_most i.due k.due) here ∙ at_most_same i.due
  | inr later ↦ due_at_most i j (order.0 j later)
]

-- where the first isn't due, none is
pub none_due : (cut : At) (i : Parcel) (items : List Parcel) → InDueOrder (i ∷ items) → is_due cut i ≡ false → Each (λ j. is_due cut j ≡ false) (i ∷ items)
none_due cut i items order fails = λ j among. elim (cases_Bool (is_due cut j)) [
  | inl holds ↦ absurd (true≢false (sym (at_most_trans i.due j.due cut (first_least i items order j among) holds) ∙ fails))
  | inr late ↦ late
]

-- an item is put in at its place
pub enqueue_puts : (i : Parcel) (items : List Parcel) → InDueOrder items → IsPutIn i items (enqueue i items)
enqueue_puts i [] order = ([], [], refl, refl, (λ j none. absurd none), (λ j none. absurd none))
enqueue_puts i (x ∷ xs) order = elim (cases_Bool (is_sooner i x)) [
  | inl holds ↦ rw holds ([], x ∷ xs, refl, refl, (λ j none. absurd none), before_each is_sooner is_sooner_order i x xs order holds)
  | inr fails ↦
      let more = enqueue_puts i xs order.1 in
      rw fails (
        x ∷ more.0,
        more.1,
        ap (λ (l : List Parcel). x ∷ l) more.2,
        ap (λ (l : List Parcel). x ∷ l) more.3,
        (λ j among. elim among [ inl here ↦ ap (is_sooner i) here ∙ fails | inr later ↦ more.4 j later ]),
        more.5,
      )
]

-- a place behind all that it isn't sooner than, and ahead of the others, is its place
pub insert_at : (i : Parcel) (xs : List Parcel) (n : ℕ) → n ≤ length xs → AllWithin (λ x. not (is_sooner i x) ≡ true) xs 0 n → AllWithin (λ x. not (is_sooner i x) ≡ false) xs n (length xs) → insert xs n i ≡ enqueue i xs
insert_at i [] zero bound ahead behind = refl
insert_at i [] (suc n) bound ahead behind = absurd (omega arith)
insert_at i (x ∷ xs) zero bound ahead behind =
    let holds : is_sooner i x ≡ true = not-false _ (behind 0 x (omega arith) (omega arith)) in
    sym (insert_by_first is_sooner i x xs holds)
insert_at i (x ∷ xs) (suc n) bound ahead behind =
    let fails : is_sooner i x ≡ false = not-true _ (ahead 0 x (omega arith) (omega arith)) in
    ap (λ (l : List Parcel). x ∷ l) (insert_at i xs n (omega arith) (λ k d low high. ahead (suc k) d (omega arith) (omega arith)) (λ k d low high. behind (suc k) d (omega arith) (omega arith)))
    ∙ sym (insert_by_later is_sooner i x xs fails)

-- in order, none is sooner than one at an earlier index or at its own
pub at_in_order : (xs : List Parcel) (i j : ℕ) (d : Parcel) → InDueOrder xs → i ≤ j → j < length xs → is_sooner (get_or xs j d) (get_or xs i d) ≡ false
at_in_order [] i j d order low high = absurd (omega arith)
at_in_order (x ∷ xs) zero zero d order low high = not_itself x
at_in_order (x ∷ xs) zero (suc j) d order low high = order.0 (get_or xs j d) (at_in xs j d (omega arith))
at_in_order (x ∷ xs) (suc i) zero d order low high = absurd (omega arith)
at_in_order (x ∷ xs) (suc i) (suc j) d order low high = at_in_order xs i j d order.1 (omega arith) (omega arith)

-- so those that an item isn't sooner than stand in front
pub puts_partitioned : (i : Parcel) (xs : List Parcel) → InDueOrder xs → IsPartitionedBy (λ x. not (is_sooner i x)) xs
puts_partitioned i xs order = λ j k d low high later. elim (cases_Bool (is_sooner i (get_or xs j d))) [
  | inl holds ↦ absurd (false≢true (sym (ap not (is_sooner_order.past i (get_or xs j d) (get_or xs k d) holds (at_in_order xs j k d order low high))) ∙ later))
  | inr fails ↦ ap not fails
]

-- and so do those that are due by a cut
pub dues_partitioned : (cut : At) (xs : List Parcel) → InDueOrder xs → IsPartitionedBy (is_due cut) xs
dues_partitioned cut xs order = λ j k d low high later. at_most_trans (get_or xs j d).due (get_or xs k d).due cut (due_at_most (get_or xs j d) (get_or xs k d) (at_in_order xs j k d order low high)) later

-- a test that all fail leaves nothing
pub filter_none : (p : Parcel → Bool) (xs : List Parcel) → Each (λ x. p x ≡ false) xs → filter p xs ≡ []
filter_none p [] each = refl
filter_none p (x ∷ xs) each = filter_fails p x xs (each x (inl refl)) ∙ filter_none p xs (λ y among. each y (inr among))

-- a test that all pass leaves all
pub filter_each : (p : Parcel → Bool) (xs : List Parcel) → Each (λ x. p x ≡ true) xs → filter p xs ≡ xs
filter_each p [] each = refl
filter_each p (x ∷ xs) each = filter_holds p x xs (each x (inl refl)) ∙ ap (λ (l : List Parcel). x ∷ l) (filter_each p xs (λ y among. each y (inr among)))

-- a list whose front passes and whose rest fails
pub take_filter : (p : Parcel → Bool) (xs : List Parcel) (n : ℕ) → n ≤ length xs → AllWithin (λ x. p x ≡ true) xs 0 n → AllWithin (λ x. p x ≡ false) xs n (length xs) → take n xs ≡ filter p xs
take_filter p [] zero bound front rest = refl
take_filter p [] (suc n) bound front rest = absurd (omega arith)
take_filter p (x ∷ xs) zero bound front rest = sym (filter_fails p x xs (rest 0 x (omega arith) (omega arith)) ∙ sym (take_filter p xs zero (omega arith) (λ k d low high. absurd (omega arith)) (λ k d low high. rest (suc k) d (omega arith) (omega arith))))
take_filter p (x ∷ xs) (suc n) bound front rest =
    ap (λ (l : List Parcel). x ∷ l) (take_filter p xs n (omega arith) (λ k d low high. front (suc k) d (omega arith) (omega arith)) (λ k d low high. rest (suc k) d (omega arith) (omega arith)))
    ∙ sym (filter_holds p x xs (front 0 x (omega arith) (omega arith)))

-- a cut splits a queue
pub cut_splits : (cut : At) (xs : List Parcel) → InDueOrder xs → xs ≡ filter (is_due cut) xs ++ filter (λ i. not (is_due cut i)) xs
cut_splits cut [] order = refl
cut_splits cut (x ∷ xs) order = elim (cases_Bool (is_due cut x)) [
  | inl holds ↦ rw (filter_holds (is_due cut) x xs holds, filter_fails (λ i. not (is_due cut i)) x xs (ap not holds)) (ap (λ (l : List Parcel). x ∷ l) (cut_splits cut xs order.1))
  | inr fails ↦
      let late = none_due cut x xs order fails in
      rw (filter_none (is_due cut) (x ∷ xs) late, filter_each (λ i. not (is_due cut i)) (x ∷ xs) (λ j among. ap not (late j among))) refl
]

-- the due of the first is the least
pub first_due_least : (items : List Parcel) → InDueOrder items → IfSome (first_due items) (λ due. Each (λ i. at_most due i.due ≡ true) items)
first_due_least [] order = tt
first_due_least (i ∷ items) order = first_least i items order

-- where the first isn't due or there is none, none is
pub first_not_due : (cut : At) (items : List Parcel) → InDueOrder items → is_first_due cut items ≡ false → Each (λ i. is_due cut i ≡ false) items
first_not_due cut [] order late = λ j none. absurd none
first_not_due cut (i ∷ items) order late = none_due cut i items order late

-- those that pass a test and the others are all
pub counts : (p : Parcel → Bool) (xs : List Parcel) → length (filter (λ x. not (p x)) xs) + count_by p xs ≡ length xs
counts p xs = omega (arith, length-filter_both p (λ x. not (p x)) (λ x. refl) xs, length-filter p xs)

-- with one more it is a queue
pub enqueue_is_queue : (i : Parcel) (items : List Parcel) → IsDue i.due → IsQueue items → IsQueue (enqueue i items)
enqueue_is_queue i items due queue = record {
  in_order = insert_by_in_order is_sooner is_sooner_order i items queue.in_order;
  dues = λ j among. elim (in_insert_by is_sooner i items j among) [ inl new ↦ subst (λ (k : Parcel). IsDue k.due) (sym new) due | inr old ↦ queue.dues j old ];
}

-- what a test leaves of a queue is one
pub filter_is_queue : (p : Parcel → Bool) (items : List Parcel) → IsQueue items → IsQueue (filter p items)
filter_is_queue p items queue = record { in_order = filter_in_order is_sooner p items queue.in_order; dues = λ j among. queue.dues j (in_filter p items j among).0 }

-- what is left behind the first is one
pub rest_is_queue : (taken : Option Parcel) (items rest : List Parcel) → items ≡ option_to_list taken ++ rest → IsQueue items → IsQueue rest
rest_is_queue None items rest split queue = subst IsQueue split queue
rest_is_queue (Some i) items rest split queue =
    let whole : IsQueue (i ∷ rest) = subst IsQueue split queue in
    record { in_order = whole.in_order.1; dues = λ j among. whole.dues j (inr among) }

-- the due of the first is one that an item may have
pub first_due_bounds : (items : List Parcel) → Each (λ i. IsDue i.due) items → ForSome (first_due items) IsDue
first_due_bounds [] each = λ due none. absurd (cc none)
first_due_bounds (i ∷ items) each = λ due same. subst IsDue (cc same) (each i (inl refl))
