-- Events over lists of items.
use Rattle.std.proofs.Common.{◌≡◌, ◌⊎◌, inl, inr, ℕ, ◌≤◌, Bool, true, false, arith, min, refl, sym, ◌∙◌, ap, subst, List, [], ◌∷◌}
use Rattle.std.specs.Prelude.{if◌then◌else◌}
use Rattle.std.proofs.lemmas.Bool.{true≢false}
use Rattle.std.proofs.lemmas.Bool.Decides.{nat_tests}
use Rattle.helics_time.specs.Stamp.{At, IsStamp, before, rank, IsDue}
use Rattle.helics_time.proofs.Ranks.{order_of}
use Rattle.hel_lists.specs.Members.{IsIn, Each}
use Rattle.time_state.specs.Fed.{Fed, IsFed, item_stamp, request_stamp, event_of, least_with, lesser}
use Rattle.time_state.specs.Laws.{Counts}
use Rattle.time_state.specs.declared.Cause.TheVariants.{Finished, Failed, Died, Halted}
use Rattle.time_state.specs.declared.Phase.{Phase}
use Rattle.time_state.specs.declared.Phase.TheVariants.{Created, Initializing, Entering, Running, Waiting, Ended}
use Rattle.time_state.proofs.Phases.{waiting_or_not}
use Rattle.time_state.proofs.Stamps.{item_goes, request_goes, Goes}

-- what holds of the request's stamp and of each item's holds of the least
pub least_is : (P : At → Type 0) (f : Fed) (s : At) (dues : List At) → P s → ((d : At) → IsIn d dues → P (item_stamp f d)) → P (least_with f s dues)
least_is P f s [] here there = here
least_is P f s (due ∷ dues) here there =
    least_is P f (lesser (item_stamp f due) s) dues
    (elim (before s (item_stamp f due)) as (λ b. P (if b then s else item_stamp f due)) [ true ↦ here | false ↦ there due (inl refl) ])
    (λ d among. there d (inr among))

-- the lesser of two stamps has the lesser rank
lesser_rank : (a b : At) → IsStamp a → IsStamp b → rank (lesser a b) ≡ min (rank a) (rank b)
lesser_rank a b ra rb = rw (order_of b a rb ra) (grind (arith, nat_tests))

-- and is one of them
lesser_is : (a b : At) → IsStamp a → IsStamp b → IsStamp (lesser a b)
lesser_is a b ra rb = elim (before b a) as (λ t. IsStamp (if t then b else a)) [ true ↦ rb | false ↦ ra ]

-- where it may go is a stamp
pub stamp_of : (f : Fed) (s : At) → IsFed f → Goes f s → IsStamp s
stamp_of f s fed goes = (elim goes.time [ inl l ↦ omega arith | inr e ↦ omega arith ], omega (arith, fed.count, fed.settings.few_iterations, goes.micro))

-- the least isn't above the first
pub least_most : (f : Fed) (s : At) (dues : List At) → IsFed f → f.phase ≡ Waiting → Each IsDue dues → IsStamp s → rank (least_with f s dues) ≤ rank s
least_most f s [] fed waits due is = omega arith
least_most f s (d ∷ dues) fed waits due is =
    let it = stamp_of f (item_stamp f d) fed (item_goes f d fed waits (due d (inl refl))) in
    let l = lesser (item_stamp f d) s in
    let e = lesser_rank (item_stamp f d) s it is in
    let more = least_most f l dues fed waits (λ x among. due x (inr among)) (lesser_is (item_stamp f d) s it is) in
    omega arith

-- nor above an item's
pub least_each : (f : Fed) (s : At) (dues : List At) (d : At) → IsFed f → f.phase ≡ Waiting → Each IsDue dues → IsStamp s → IsIn d dues → rank (least_with f s dues) ≤ rank (item_stamp f d)
least_each f s [] d fed waits due is among = absurd among
least_each f s (x ∷ dues) d fed waits due is among =
    let it = stamp_of f (item_stamp f x) fed (item_goes f x fed waits (due x (inl refl))) in
    let e = lesser_rank (item_stamp f x) s it is in
    let l_is = lesser_is (item_stamp f x) s it is in
    elim among [
      | inl here ↦
          let most = least_most f (lesser (item_stamp f x) s) dues fed waits (λ y in_rest. due y (inr in_rest)) l_is in
          let same : rank (item_stamp f d) ≡ rank (item_stamp f x) = ap (λ (y : At). rank (item_stamp f y)) here in
          omega arith
      | inr later ↦ least_each f (lesser (item_stamp f x) s) dues d fed waits (λ y in_rest. due y (inr in_rest)) l_is later
    ]

-- a waiting federate's event
pub event_waiting : (f : Fed) (dues : List At) → f.phase ≡ Waiting → event_of f dues ≡ (if f.settings.uninterruptible then request_stamp f else least_with f (request_stamp f) dues)
event_waiting f dues waits = rw waits refl

-- where items count, it is the least of all
pub event_counts : (f : Fed) (dues : List At) → Counts f → event_of f dues ≡ least_with f (request_stamp f) dues
event_counts f dues counts = event_waiting f dues counts.0 ∙ ap (λ (b : Bool). if b then request_stamp f else least_with f (request_stamp f) dues) counts.1

-- items count or not
counts_or_not : (f : Fed) → Counts f ⊎ (Counts f → ⊥)
counts_or_not f = elim (waiting_or_not f.phase) [ inl is ↦ by_flag is f.settings.uninterruptible refl | inr not ↦ inr (λ counts. not counts.0) ]
  where
    by_flag : f.phase ≡ Waiting → (u : Bool) → f.settings.uninterruptible ≡ u → Counts f ⊎ (Counts f → ⊥)
    by_flag is false off = inl (is, off)
    by_flag is true on = inr (λ counts. absurd (true≢false (sym on ∙ counts.1)))

-- where items don't count the event is that over none
pub event_out : (f : Fed) (dues : List At) → (Counts f → ⊥) → event_of f dues ≡ event_of f []
event_out f dues not = by_phase f.phase f.settings.uninterruptible refl refl
  where
    by_phase : (p : Phase) (u : Bool) → f.phase ≡ p → f.settings.uninterruptible ≡ u → event_of f dues ≡ event_of f []
    by_phase Waiting false is off = absurd (not (is, off))
    by_phase Waiting true is un = rw (is, un) refl
    by_phase Created u is un = rw is refl
    by_phase Initializing u is un = rw is refl
    by_phase Entering u is un = rw is refl
    by_phase Running u is un = rw is refl
    by_phase (Ended Finished) u is un = rw is refl
    by_phase (Ended Failed) u is un = rw is refl
    by_phase (Ended Died) u is un = rw is refl
    by_phase (Ended (Halted d)) u is un = rw is refl

-- what holds of the event over no item, and of each item's stamp where items count, holds of the event
pub event_by : (P : At → Type 0) (f : Fed) (dues : List At) → P (event_of f []) → ((d : At) → IsIn d dues → Counts f → P (item_stamp f d)) → P (event_of f dues)
event_by P f dues none each = elim (counts_or_not f) [
  | inl counts ↦
      subst P (sym (event_counts f dues counts))
      (least_is P f (request_stamp f) dues (subst P (event_counts f [] counts) none) (λ d among. each d among counts))
  | inr not ↦ subst P (sym (event_out f dues not)) none
]

-- what it asks for is a stamp
pub request_is : (f : Fed) → IsFed f → f.phase ≡ Waiting → IsStamp (request_stamp f)
request_is f fed waits = stamp_of f (request_stamp f) fed (request_goes f fed waits)

-- over items the event isn't later than over none
pub at_most_none : (f : Fed) (dues : List At) → IsFed f → Each IsDue dues → rank (event_of f dues) ≤ rank (event_of f [])
at_most_none f dues fed due = elim (counts_or_not f) [
  | inl counts ↦
      let most = least_most f (request_stamp f) dues fed counts.0 due (request_is f fed counts.0) in
      let e : rank (event_of f dues) ≡ rank (least_with f (request_stamp f) dues) = ap rank (event_counts f dues counts) in
      let n : rank (event_of f []) ≡ rank (request_stamp f) = ap rank (event_counts f [] counts) in
      omega (arith, most, e, n)
  | inr not ↦ let e : rank (event_of f dues) ≡ rank (event_of f []) = ap rank (event_out f dues not) in omega (arith, e)
]

-- nor later than an item that counts
pub at_most_each : (f : Fed) (dues : List At) (d : At) → IsFed f → Each IsDue dues → Counts f → IsIn d dues → rank (event_of f dues) ≤ rank (item_stamp f d)
at_most_each f dues d fed due counts among =
    let most = least_each f (request_stamp f) dues d fed counts.0 due (request_is f fed counts.0) among in
    let e : rank (event_of f dues) ≡ rank (least_with f (request_stamp f) dues) = ap rank (event_counts f dues counts) in
    omega (arith, most, e)

-- and no stamp above it is so
pub greatest : (f : Fed) (dues : List At) (c : ℕ) → c ≤ rank (event_of f []) → ((d : At) → IsIn d dues → Counts f → c ≤ rank (item_stamp f d)) → c ≤ rank (event_of f dues)
greatest f dues c none each = event_by (λ s. c ≤ rank s) f dues none each
