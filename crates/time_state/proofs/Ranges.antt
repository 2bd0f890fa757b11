-- Where events lie.
use Rattle.std.proofs.Common.{◌≡◌, ◌≢◌, inl, inr, ℕ, ◌≤◌, ◌^◌, Bool, true, false, arith, refl, sym, ap, subst, List, []}
use Rattle.std.specs.Prelude.{◌↔◌, ◌-◌, nat_lt, ◌==◌, ◌||◌, if◌then◌else◌}
use Rattle.std.proofs.lemmas.Bool.Decides.{nat_tests}
use Rattle.helics_time.specs.Time.{max_time, horizon}
use Rattle.helics_time.specs.Stamp.{At, IsStamp, never, IsDue}
use Rattle.hel_lists.specs.Members.{Each}
use Rattle.time_state.specs.Fed.{Fed, IsEvent, IsFed, request_stamp, event_of, zero_stamp}
use Rattle.time_state.specs.declared.Cause.TheVariants.{Finished, Failed, Died, Halted}
use Rattle.time_state.specs.declared.Phase.{Phase}
use Rattle.time_state.specs.declared.Phase.TheVariants.{Created, Initializing, Entering, Running, Waiting, Ended}
use Rattle.time_state.proofs.Phases.{finished_or_not}
use Rattle.time_state.proofs.Stamps.{Steps, item_steps, request_steps, item_goes, request_goes, Goes}
use Rattle.time_state.proofs.Events.{event_by}

-- over no item a waiting federate's event is the stamp of what it asks for
none_is : (f : Fed) → f.phase ≡ Waiting → event_of f [] ≡ request_stamp f
none_is f waits = rw waits (both f.settings.uninterruptible)
  where
    both : (u : Bool) → (if u then request_stamp f else request_stamp f) ≡ request_stamp f
    both true = refl
    both false = refl

-- a waiting federate's event is on its grid, or an iteration that it asked for
pub event_steps : (f : Fed) (dues : List At) → IsFed f → f.phase ≡ Waiting → Each IsDue dues → Steps f (event_of f dues)
event_steps f dues fed waits due =
    event_by (λ s. Steps f s) f dues (subst (λ s. Steps f s) (sym (none_is f waits)) (request_steps f fed waits))
    (λ d among counts. item_steps f d fed waits (due d among))

-- and goes up, within bounds
pub event_goes : (f : Fed) (dues : List At) → IsFed f → f.phase ≡ Waiting → Each IsDue dues → Goes f (event_of f dues)
event_goes f dues fed waits due =
    event_by (λ s. Goes f s) f dues
    (subst (λ s. Goes f s) (sym (none_is f waits)) (request_goes f fed waits))
    (λ d among counts. item_goes f d fed waits (due d among))

-- a stamp to which it may go is in the range of events
pub goes_event : (f : Fed) (s : At) → IsFed f → Goes f s → IsEvent s
goes_event f s fed goes = record {
  time = elim goes.time [ inl l ↦ omega arith | inr e ↦ omega arith ];
  micro = omega (arith, fed.count, fed.settings.few_iterations, goes.micro);
}

-- its last grant's stamp too
pub last_event : (f : Fed) → IsFed f → IsEvent f.last
last_event f fed = record { time = low f.last.time fed.time; micro = omega (arith, fed.count, fed.settings.few_iterations, fed.micro) }
  where
    low : (t : ℕ) → (nat_lt t horizon || t == max_time) ≡ true → t ≤ max_time
    low t e = grind (arith, nat_tests)

-- each event but that of one that has finished is in the range of events
pub event_is : (f : Fed) (dues : List At) → IsFed f → Each IsDue dues → f.phase ≢ Ended Finished → IsEvent (event_of f dues)
event_is f dues fed due other = by_phase f.phase refl
  where
    zero_is : IsEvent zero_stamp
    zero_is = record { time = omega arith; micro = omega arith }

    by_phase : (p : Phase) → f.phase ≡ p → IsEvent (event_of f dues)
    by_phase Created is = rw is zero_is
    by_phase Initializing is = rw is zero_is
    by_phase Entering is = rw is (record { time = omega arith; micro = omega arith })
    by_phase Running is = rw is (last_event f fed)
    by_phase Waiting is = goes_event f (event_of f dues) fed (event_goes f dues fed is due)
    by_phase (Ended Finished) is = absurd (other is)
    by_phase (Ended Failed) is = rw is fed.kept
    by_phase (Ended Died) is = rw is fed.kept
    by_phase (Ended (Halted d)) is = rw is fed.kept

-- each event is a stamp
pub event_stamp : (f : Fed) (dues : List At) → IsFed f → Each IsDue dues → IsStamp (event_of f dues)
event_stamp f dues fed due = elim (finished_or_not f.phase) [
  | inl is ↦ rw is (omega arith, omega arith)
  | inr other ↦ let event = event_is f dues fed due other in (event.time, omega (arith, event.micro))
]

-- the event is never exactly where it has finished
pub never_is : (f : Fed) (dues : List At) → IsFed f → Each IsDue dues → (event_of f dues ≡ never) ↔ (f.phase ≡ Ended Finished)
never_is f dues fed due = (
  λ e. elim (finished_or_not f.phase) [
    | inl is ↦ is
    | inr other ↦
        let event = event_is f dues fed due other in
        let micro : (event_of f dues).micro ≡ 2 ^ 64 - 1 = ap (λ (s : At). s.micro) e in
        absurd (omega (arith, event.micro, micro))
  ],
  λ is. rw is refl,
)
