-- Where a grant goes, what its cut is, and what each federate keeps over it.
use Rattle.std.proofs.Common.{◌≡◌, ◌⊎◌, inl, inr, ℕ, ◌+◌, ◌*◌, ◌<◌, ◌≤◌, ◌^◌, Bool, true, false, arith, refl, sym, ◌∙◌, ap, subst, List}
use Rattle.std.specs.Prelude.{◌≢◌, nat_lt, ◌==◌, ◌&&◌, ◌||◌, not, if◌then◌else◌}
use Rattle.std.proofs.lemmas.Bool.{false≢true}
use Rattle.std.proofs.lemmas.Bool.Decides.{nat_tests}
use Rattle.helics_time.specs.Time.{max_time, horizon}
use Rattle.helics_time.specs.Stamp.{At, before, next_of, rank, IsDue}
use Rattle.helics_time.proofs.Ranks.{order_of, next_more}
use Rattle.hel_lists.specs.Members.{Each}
use Rattle.time_state.specs.Fed.{Fed, IsEvent, IsFed, IsStep, event_of, cut_at, cut_of, is_iterating, granted, granted_at, is_asking}
use Rattle.time_state.specs.declared.Phase.{Phase}
use Rattle.time_state.specs.declared.Phase.TheVariants.{Created, Initializing, Entering, Running, Waiting, Ended}
use Rattle.time_state.specs.declared.Cause.TheVariants.{Finished}
use Rattle.time_state.proofs.Phases.{waiting_or_not}
use Rattle.time_state.proofs.Stamps.{Steps, Goes, iterating_waits}
use Rattle.time_state.proofs.Events.{stamp_of}
use Rattle.time_state.proofs.Ranges.{event_goes, event_steps, last_event, event_is, event_stamp}

-- where it doesn't wait, a cut is the stamp of its grant
cut_idle : (f : Fed) (s : At) → f.phase ≢ Waiting → cut_at f s ≡ s
cut_idle f s idle = by_phase f.phase refl
  where
    by_phase : (p : Phase) → f.phase ≡ p → cut_at f s ≡ s
    by_phase Waiting is = absurd (idle is)
    by_phase Created is = rw is refl
    by_phase Initializing is = rw is refl
    by_phase Entering is = rw is refl
    by_phase Running is = rw is refl
    by_phase (Ended cause) is = rw is refl

-- a cut is the stamp of its grant, or the next stamp
pub cut_either : (f : Fed) (s : At) → (cut_at f s ≡ s) ⊎ (cut_at f s ≡ next_of s)
cut_either f s = elim (waiting_or_not f.phase) [ inl is ↦ rw is (chosen (f.settings.wait && not (s.time == f.last.time))) | inr idle ↦ inl (cut_idle f s idle) ]
  where
    chosen : (b : Bool) → ((if b then next_of s else s) ≡ s) ⊎ ((if b then next_of s else s) ≡ next_of s)
    chosen true = inr refl
    chosen false = inl refl

-- a cut isn't below the event
pub cut_low : (f : Fed) (dues : List At) → IsFed f → Each IsDue dues → rank (event_of f dues) ≤ rank (cut_of f dues)
cut_low f dues fed due =
    let s : At = event_of f dues in
    let is = event_stamp f dues fed due in
    let next = next_more s is in
    elim (cut_either f s) [
      | inl e ↦ let same : rank (cut_at f s) ≡ rank s = ap rank e in omega (arith, same)
      | inr e ↦ let same : rank (cut_at f s) ≡ rank (next_of s) = ap rank e in omega (arith, same, next, is)
    ]

-- nor above the next stamp
pub cut_high : (f : Fed) (dues : List At) → IsFed f → Each IsDue dues → rank (cut_of f dues) ≤ rank (event_of f dues) + 1
cut_high f dues fed due =
    let s : At = event_of f dues in
    let next = next_more s (event_stamp f dues fed due) in
    elim (cut_either f s) [
      | inl e ↦ let same : rank (cut_at f s) ≡ rank s = ap rank e in omega (arith, same)
      | inr e ↦ let same : rank (cut_at f s) ≡ rank (next_of s) = ap rank e in omega (arith, same, next)
    ]

-- the cut at a stamp that isn't near the end of its micro
cut_near : (f : Fed) (s : At) → s.time ≤ max_time → s.micro ≤ 2 ^ 62 + 20000 → IsEvent (cut_at f s) × (rank s ≤ rank (cut_at f s)) × (rank (cut_at f s) ≤ rank s + 1)
cut_near f s fits small = elim (cut_either f s) [
  | inl e ↦ subst Near (sym e) (record { time = fits; micro = omega arith }, omega arith, omega arith)
  | inr e ↦ subst Near (sym e) (record { time = grind (arith, nat_tests); micro = grind (arith, nat_tests) }, grind (arith, nat_tests), grind (arith, nat_tests))
]
  where
    Near : At → Type 0
    Near c = IsEvent c × (rank s ≤ rank c) × (rank c ≤ rank s + 1)

-- each cut but that of one that has finished is in the range of events
pub cut_is : (f : Fed) (dues : List At) → IsFed f → Each IsDue dues → f.phase ≢ Ended Finished → IsEvent (cut_of f dues)
cut_is f dues fed due other =
    let event = event_is f dues fed due other in
    elim (waiting_or_not f.phase) [
      | inl is ↦
          let goes = event_goes f dues fed is due in
          (cut_near f (event_of f dues) event.time (omega (arith, fed.count, fed.settings.few_iterations, goes.micro))).0
      | inr idle ↦ subst (λ (c : At). IsEvent c) (sym (cut_idle f (event_of f dues) idle)) event
    ]

-- equal times
same_time : (a b : ℕ) → (a == b) ≡ true → a ≡ b
same_time a b e = grind (arith, nat_tests)

-- different times
other_time : (a b : ℕ) → (a == b) ≡ false → a ≡ b → ⊥
other_time a b e same = grind (arith, nat_tests)

-- where a waiting federate goes is a step
step_waiting : (f : Fed) (s : At) → IsFed f → f.phase ≡ Waiting → Goes f s → Steps f s → IsStep f s
step_waiting f s fed waits goes steps = record {
  rises = order_of f.last s (let e = last_event f fed in (omega arith, omega arith)) (stamp_of f s fed goes) ∙ less (rank f.last) (rank s) goes.rises;
  time = tests s.time goes.time;
  micro = rw iterating (small s.micro s.time f.last.time f.last.micro f.count (omega (arith, fed.count, fed.settings.few_iterations)) goes.rises goes.micro goes.micro_new);
  asked = λ e. steps.same (same_time s.time f.last.time (sym iterating ∙ e));
  count = λ e. goes.same (same_time s.time f.last.time (sym iterating ∙ e));
  lawful = λ w e. (steps.next (other_time s.time f.last.time (sym iterating ∙ e))).0;
  distance = λ w e. (steps.next (other_time s.time f.last.time (sym iterating ∙ e))).1;
}
  where
    iterating : is_iterating f s ≡ (s.time == f.last.time)
    iterating = iterating_waits f s waits

    less : (a b : ℕ) → a < b → nat_lt a b ≡ true
    less a b h = grind (arith, nat_tests)

    tests : (t : ℕ) → (t < horizon) ⊎ (t ≡ max_time) → (nat_lt t horizon || t == max_time) ≡ true
    tests t either = grind (arith, nat_tests)

    small : (m t now last n : ℕ) → n ≤ 10000 → now * 2 ^ 64 + last < t * 2 ^ 64 + m → m ≤ 2 ^ 62 + 2 + n → (now < t → m ≤ 2 ^ 62 + 1) → m ≤ 2 ^ 62 + 1 + (if t == now then n + 1 else 0)
    small m t now last n few rises most new = grind (arith, nat_tests)

-- and so is the entry
step_entering : (f : Fed) → IsFed f → f.phase ≡ Entering → IsStep f (record { time = 0; micro = 1 })
step_entering f fed enters = record {
  rises = subst (λ (last : At). before last (record { time = 0; micro = 1 }) ≡ true) (sym (fed.first (rw enters refl))) refl;
  time = refl;
  micro = rw enters (omega arith);
  asked = λ e. absurd (false≢true (sym is_step ∙ e));
  count = λ e. absurd (false≢true (sym is_step ∙ e));
  lawful = λ waits e. absurd (clash enters waits);
  distance = λ waits e. absurd (clash enters waits);
}
  where
    is_step : is_iterating f (record { time = 0; micro = 1 }) ≡ false
    is_step = rw enters refl

    clash : f.phase ≡ Entering → f.phase ≡ Waiting → ⊥
    clash is waits = cc

-- a grant goes to a step
pub grant_steps : (f : Fed) (dues : List At) → IsFed f → Each IsDue dues → is_asking f.phase ≡ true → IsStep f (event_of f dues)
grant_steps f dues fed due asks = by_phase f.phase refl
  where
    by_phase : (p : Phase) → f.phase ≡ p → IsStep f (event_of f dues)
    by_phase Entering is = subst (λ (s : At). IsStep f s) (let e : event_of f dues ≡ record { time = 0; micro = 1 } = rw is refl in sym e) (step_entering f fed is)
    by_phase Waiting is = step_waiting f (event_of f dues) fed is (event_goes f dues fed is due) (event_steps f dues fed is due)
    by_phase Created is = let e = rw is at asks in absurd (false≢true e)
    by_phase Initializing is = let e = rw is at asks in absurd (false≢true e)
    by_phase Running is = let e = rw is at asks in absurd (false≢true e)
    by_phase (Ended cause) is = let e = rw is at asks in absurd (false≢true e)

-- what is kept over a grant at a step
step_stands : (f : Fed) (s : At) → IsFed f → IsStep f s → IsFed (granted_at f s)
step_stands f s fed step =
    let small = count_small (is_iterating f s) step.count in
    let fits : s.time ≤ max_time = low s.time step.time in
    let cut = cut_near f s fits (omega (arith, step.micro, small, fed.settings.few_iterations)) in
    record {
      settings = fed.settings;
      time = step.time;
      micro = step.micro;
      count = small;
      asked = fed.asked;
      waiting = λ e. cc;
      may_iterate = λ e it. cc;
      first = λ e. absurd (false≢true e);
      none = λ e. absurd (false≢true e);
      cut_is = cut.0;
      cut_low = cut.1;
      cut_high = cut.2;
      kept = fed.kept;
    }
  where
    count_small : (b : Bool) → (b ≡ true → f.count < f.settings.max_iterations) → (if b then f.count + 1 else 0) ≤ f.settings.max_iterations
    count_small true below = let less = below refl in omega (arith, less)
    count_small false below = omega arith

    low : (t : ℕ) → (nat_lt t horizon || t == max_time) ≡ true → t ≤ max_time
    low t e = grind (arith, nat_tests)

-- what is kept over a grant
pub grant_stands : (f : Fed) (dues : List At) → IsFed f → Each IsDue dues → is_asking f.phase ≡ true → IsFed (granted f dues)
grant_stands f dues fed due asks = step_stands f (event_of f dues) fed (grant_steps f dues fed due asks)
