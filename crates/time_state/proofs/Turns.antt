-- What turns and ends do to events, and to what each federate keeps.
use Rattle.std.proofs.Common.{◌≡◌, ◌≢◌, inl, inr, ℕ, ◌<◌, ◌≤◌, true, false, arith, refl, sym, ◌∙◌, List, []}
use Rattle.std.specs.Prelude.{nat_lt, nat_le, ◌==◌, ◌||◌, if◌then◌else◌, None, Some}
use Rattle.std.proofs.lemmas.Bool.{cases_lt, false≢true}
use Rattle.std.proofs.lemmas.Bool.Decides.{nat_tests}
use Rattle.helics_time.specs.Time.{max_time, horizon}
use Rattle.helics_time.specs.Stamp.{At, rank, IsDue}
use Rattle.helics_time.specs.Settings.{Terms, IsTerms}
use Rattle.hel_lists.specs.Members.{Each}
use Rattle.iteration_rules.specs.Iteration.{iterates}
use Rattle.iteration_rules.specs.declared.Mode.{Mode}
use Rattle.iteration_rules.specs.declared.Mode.TheVariants.{Next}
use Rattle.time_state.specs.Fed.{Fed, IsEvent, IsFed, event_of, ended, requested, created, enter_refusal, request_refusal, is_first, is_live}
use Rattle.time_state.specs.Laws.{Turn, MayTurn, turned}
use Rattle.time_state.specs.Laws.Turn.{begins, enters, requests, finishes}
use Rattle.time_state.specs.declared.Cause.{Cause}
use Rattle.time_state.specs.declared.Cause.TheVariants.{Finished, Failed, Died, Halted}
use Rattle.time_state.specs.declared.Phase.{Phase}
use Rattle.time_state.specs.declared.Phase.TheVariants.{Created, Initializing, Entering, Running, Waiting, Ended}
use Rattle.time_state.specs.declared.TimeRefusal.TheVariants.{PastHorizon}
use Rattle.time_state.proofs.Ranges.{event_goes, event_is}

-- an end that is no call keeps the event
pub ends_keep : (f : Fed) (c : Cause) (dues more : List At) → c ≢ Finished → event_of (ended f c dues) more ≡ event_of f dues
ends_keep f Finished dues more other = absurd (other refl)
ends_keep f Failed dues more other = refl
ends_keep f Died dues more other = refl
ends_keep f (Halted d) dues more other = refl

-- a call to enter that isn't refused comes from an initializing federate
pub may_enter : (f : Fed) → enter_refusal f ≡ None → f.phase ≡ Initializing
may_enter f h = go f.phase h
  where
    go : (p : Phase) → enter_refusal (record f { phase = p }) ≡ None → p ≡ Initializing
    go Created e = cc
    go Initializing e = refl
    go Entering e = cc
    go Running e = cc
    go Waiting e = cc
    go (Ended c) e = cc

-- a request that isn't refused comes from a running federate that isn't at the greatest time
pub may_request : (f : Fed) → request_refusal f ≡ None → (f.phase ≡ Running) × ((f.last.time ≡ max_time) → ⊥)
may_request f h = go f.phase h
  where
    at_running : (t : ℕ) → (if t == max_time then Some PastHorizon else None) ≡ None → t ≡ max_time → ⊥
    at_running t e same = grind (arith, nat_tests)

    go : (p : Phase) → request_refusal (record f { phase = p }) ≡ None → (p ≡ Running) × ((f.last.time ≡ max_time) → ⊥)
    go Created e = cc
    go Initializing e = cc
    go Entering e = cc
    go Running e = (refl, at_running f.last.time e)
    go Waiting e = cc
    go (Ended c) e = cc

-- what is kept in another phase, where nothing is asked for
fed_in : (f : Fed) (p : Phase) (kept : At) → IsFed f → IsEvent kept → (p ≡ Waiting → ⊥) → (is_first p ≡ true → is_first f.phase ≡ true) → IsFed (record f { phase = p; kept = kept })
fed_in f p kept fed is idle first = record {
  settings = fed.settings;
  time = fed.time;
  micro = fed.micro;
  count = fed.count;
  asked = fed.asked;
  waiting = λ e. absurd (idle e);
  may_iterate = λ e it. absurd (idle e);
  first = λ e. fed.first (first e);
  none = λ e. fed.none (first e);
  cut_is = fed.cut_is;
  cut_low = fed.cut_low;
  cut_high = fed.cut_high;
  kept = is;
}

-- what is kept where a time is asked for
requested_fed : (f : Fed) (time : ℕ) (mode : Mode) → IsFed f → (f.last.time ≡ max_time → ⊥) → time ≤ max_time → IsFed (requested f time mode)
requested_fed f time mode fed not fits = record {
  settings = fed.settings;
  time = fed.time;
  micro = fed.micro;
  count = fed.count;
  asked = fits;
  waiting = λ e. low f.last.time fed.time not;
  may_iterate = λ e it. more mode f.count f.settings.max_iterations it;
  first = λ e. absurd (false≢true e);
  none = λ e. absurd (false≢true e);
  cut_is = fed.cut_is;
  cut_low = fed.cut_low;
  cut_high = fed.cut_high;
  kept = fed.kept;
}
  where
    low : (t : ℕ) → (nat_lt t horizon || t == max_time) ≡ true → (t ≡ max_time → ⊥) → t < horizon
    low t e no_max = grind (arith, nat_tests)

    taken_next : (m : Mode) (n most : ℕ) → most ≤ n → iterates (if nat_le most n then Next else m) ≡ false
    taken_next m n most le = let e : nat_le most n ≡ true = grind (arith, nat_tests) in rw e refl

    more : (m : Mode) (n most : ℕ) → iterates (if nat_le most n then Next else m) ≡ true → n < most
    more m n most it = elim (cases_lt n most) [ inl l ↦ l | inr le ↦ absurd (false≢true (sym (taken_next m n most le) ∙ it)) ]

-- one that is live hasn't finished
live_other : (f : Fed) → is_live f.phase ≡ true → f.phase ≢ Ended Finished
live_other f live e = let ended = rw e at live in absurd (false≢true ended)

-- one that may finish is live
finishes_live : (f : Fed) → MayTurn f finishes → is_live f.phase ≡ true
finishes_live f may = elim may [ inl e ↦ rw e refl | inr e ↦ rw e refl ]

-- what is kept over an end
pub end_stands : (f : Fed) (c : Cause) (dues : List At) → IsFed f → Each IsDue dues → is_live f.phase ≡ true → IsFed (ended f c dues)
end_stands f c dues fed due live =
    fed_in f (Ended c) (event_of f dues) fed (event_is f dues fed due (live_other f live)) (λ e. cc) (λ e. absurd (false≢true e))

-- what is kept over a turn
pub turn_stands : (f : Fed) (t : Turn) → IsFed f → MayTurn f t → IsFed (turned f t)
turn_stands f begins fed may = fed_in f Initializing f.kept fed fed.kept (λ e. cc) (λ e. rw may refl)
turn_stands f enters fed may = fed_in f Entering f.kept fed fed.kept (λ e. cc) (λ e. rw (may_enter f may) refl)
turn_stands f (requests time mode) fed may = requested_fed f time mode fed (may_request f may.0).1 may.1
turn_stands f finishes fed may = end_stands f Finished [] fed (λ d none. absurd none) (finishes_live f may)

-- a turn doesn't lower the event
pub turns_rise : (f : Fed) (t : Turn) (dues more : List At) → IsFed f → Each IsDue dues → Each IsDue more → MayTurn f t → rank (event_of f dues) ≤ rank (event_of (turned f t) more)
turns_rise f begins dues more fed due due_more may = rw may (omega arith)
turns_rise f enters dues more fed due due_more may = rw (may_enter f may) (omega arith)
turns_rise f (requests time mode) dues more fed due due_more may =
    let asks : Fed = requested f time mode in
    let kept = requested_fed f time mode fed (may_request f may.0).1 may.1 in
    let goes = event_goes asks more kept refl due_more in
    let runs : event_of f dues ≡ f.last = rw (may_request f may.0).0 refl in
    rw runs (omega (arith, goes.rises))
turns_rise f finishes dues more fed due due_more may =
    let event = event_is f dues fed due (live_other f (finishes_live f may)) in
    omega (arith, event.time, event.micro)

-- what is kept holds at the beginning
pub opening_stands : (s : Terms) → IsTerms s → IsFed (created s)
opening_stands s terms = record {
  settings = terms;
  time = refl;
  micro = omega arith;
  count = omega arith;
  asked = omega arith;
  waiting = λ e. cc;
  may_iterate = λ e it. cc;
  first = λ e. refl;
  none = λ e. refl;
  cut_is = record { time = omega arith; micro = omega arith };
  cut_low = omega arith;
  cut_high = omega arith;
  kept = record { time = omega arith; micro = omega arith };
}
