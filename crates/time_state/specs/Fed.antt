-- The time of one federate: its phase, what it was granted last, what it asked for.
use Rattle.std.specs.Prelude.{ℕ, ◌+◌, ◌^◌, ◌<◌, ◌≤◌, ◌≡◌, Bool, true, false, not, nat_lt, nat_le, ◌==◌, ◌&&◌, ◌||◌, if◌then◌else◌, max, List, [], ◌∷◌, Option, Some, None}
use Rattle.helics_time.specs.Time.{max_time, horizon}
use Rattle.helics_time.specs.Stamp.{At, never, before, next_of, rank}
use Rattle.helics_time.specs.Settings.{Terms, IsTerms, is_lawful, up_of, delta_of}
use Rattle.time_state.specs.declared.TimeRefusal.{TimeRefusal}
use Rattle.time_state.specs.declared.TimeRefusal.TheVariants.{Ended as RefusedEnded, WrongPhase, PastHorizon}
use Rattle.iteration_rules.specs.declared.Kind.TheVariants.{NextStep, Iterating}
use Rattle.time_state.specs.declared.Grant.{Grant}
use Rattle.iteration_rules.specs.declared.Mode.{Mode}
use Rattle.iteration_rules.specs.declared.Mode.TheVariants.{Next, Force}
use Rattle.iteration_rules.specs.Iteration.{iterates, effective}
use Rattle.time_state.specs.declared.Cause.{Cause}
use Rattle.time_state.specs.declared.Cause.TheVariants.{Finished}
use Rattle.time_state.specs.declared.Phase.{Phase}
use Rattle.time_state.specs.declared.Phase.TheVariants.{Created, Initializing, Entering, Running, Waiting, Ended}

-- a time that was asked for, in the mode in which the request was taken
pub record Request : Type 0 where
  pub time : ℕ
  pub mode : Mode

pub record Fed : Type 0 where
  pub settings : Terms
  pub phase : Phase
  -- the stamp of the last grant, (0, 0) before the first
  pub last : At
  -- what it asked for last
  pub request : Request
  -- the cut of the last grant, (0, 0) before the first
  pub last_cut : At
  -- the iterating grants since its time last rose
  pub count : ℕ
  -- its event before it ended
  pub kept : At

abbrev pub zero_stamp : At
zero_stamp = record { time = 0; micro = 0 }

-- it hasn't ended
abbrev pub is_live : Phase → Bool
is_live (Ended cause) = false
is_live p = true

-- it waits for a grant
abbrev pub is_asking : Phase → Bool
is_asking Entering = true
is_asking Waiting = true
is_asking p = false

-- it lives, and was granted nothing yet
abbrev pub is_first : Phase → Bool
is_first Created = true
is_first Initializing = true
is_first Entering = true
is_first p = false

abbrev pub lesser : At → At → At
lesser a b = if before b a then b else a

-- the stamp of what it asks for
abbrev pub request_stamp : Fed → At
request_stamp f = asked f.request.mode
  where
    asked : Mode → At
    asked Force = record { time = f.last.time; micro = f.last.micro + 1 }
    asked m = record { time = up_of f.settings (max f.request.time (f.last.time + delta_of f.settings)); micro = 0 }

-- the stamp at which it may be handed an item of this due
abbrev pub item_stamp : Fed → At → At
item_stamp f due =
    let next = up_of f.settings (max due.time (f.last.time + delta_of f.settings)) in
    if iterates f.request.mode && nat_le due.time f.last.time
    then record { time = f.last.time; micro = if due.time == f.last.time then max (f.last.micro + 1) due.micro else f.last.micro + 1 }
    else (if next == due.time then due else record { time = next; micro = 0 })

-- the least of s and the stamps of items of these dues
abbrev pub least_with : Fed → At → List At → At
least_with f s [] = s
least_with f s (due ∷ dues) = least_with f (lesser (item_stamp f due) s) dues

-- the stamp at which it acts next, where the items that it wasn't handed yet have these dues
abbrev pub event_of : Fed → List At → At
event_of f dues = at f.phase
  where
    at : Phase → At
    at Created = zero_stamp
    at Initializing = zero_stamp
    at Entering = record { time = 0; micro = 1 }
    at Running = f.last
    at Waiting = if f.settings.uninterruptible then request_stamp f else least_with f (request_stamp f) dues
    at (Ended Finished) = never
    at (Ended cause) = f.kept

-- a grant at this stamp iterates
abbrev pub is_iterating : Fed → At → Bool
is_iterating f s = in_phase f.phase
  where
    in_phase : Phase → Bool
    in_phase Waiting = s.time == f.last.time
    in_phase p = false

-- what is due by it is handed over at a grant at this stamp
abbrev pub cut_at : Fed → At → At
cut_at f s = in_phase f.phase
  where
    in_phase : Phase → At
    in_phase Waiting = if f.settings.wait && not (s.time == f.last.time) then next_of s else s
    in_phase p = s

-- what a grant at this stamp tells
abbrev pub grant_at : Fed → At → Grant
grant_at f s = record { time = s.time; micro = s.micro; kind = if is_iterating f s then Iterating else NextStep }

-- after a grant at this stamp
abbrev pub granted_at : Fed → At → Fed
granted_at f s =
    record f { phase = Running; last = s; last_cut = cut_at f s; count = if is_iterating f s then f.count + 1 else 0 }

-- the cut of the next grant
abbrev pub cut_of : Fed → List At → At
cut_of f dues = cut_at f (event_of f dues)

-- what the next grant tells
abbrev pub grant_of : Fed → List At → Grant
grant_of f dues = grant_at f (event_of f dues)

-- after a grant
abbrev pub granted : Fed → List At → Fed
granted f dues = granted_at f (event_of f dues)

-- after a request
abbrev pub requested : Fed → ℕ → Mode → Fed
requested f time mode =
    record f { phase = Waiting; request = record { time = time; mode = effective mode f.count f.settings.max_iterations } }

-- after an end
abbrev pub ended : Fed → Cause → List At → Fed
ended f cause dues = record f { phase = Ended cause; kept = event_of f dues }

-- a federate at the beginning
abbrev pub created : Terms → Fed
created settings =
    record {
      settings = settings;
      phase = Created;
      last = zero_stamp;
      request = record { time = 0; mode = Next };
      last_cut = zero_stamp;
      count = 0;
      kept = zero_stamp;
    }

-- why a call to enter is refused
abbrev pub enter_refusal : Fed → Option TimeRefusal
enter_refusal f = in_phase f.phase
  where
    in_phase : Phase → Option TimeRefusal
    in_phase Initializing = None
    in_phase (Ended cause) = Some (RefusedEnded cause)
    in_phase p = Some (WrongPhase p)

-- why a request is refused
abbrev pub request_refusal : Fed → Option TimeRefusal
request_refusal f = in_phase f.phase
  where
    in_phase : Phase → Option TimeRefusal
    in_phase Running = if f.last.time == max_time then Some PastHorizon else None
    in_phase (Ended cause) = Some (RefusedEnded cause)
    in_phase p = Some (WrongPhase p)

-- an event or a cut of a federate that hasn't finished
pub record IsEvent (s : At) : Type 0 where
  pub time : s.time ≤ max_time
  pub micro : s.micro ≤ 2 ^ 63

-- what every federate keeps
pub record IsFed (f : Fed) : Type 0 where
  pub settings : IsTerms f.settings
  pub time : (nat_lt f.last.time horizon || f.last.time == max_time) ≡ true
  pub micro : f.last.micro ≤ 2 ^ 62 + 1 + f.count
  pub count : f.count ≤ f.settings.max_iterations
  pub asked : f.request.time ≤ max_time
  pub waiting : f.phase ≡ Waiting → f.last.time < horizon
  pub may_iterate : f.phase ≡ Waiting → iterates f.request.mode ≡ true → f.count < f.settings.max_iterations
  pub first : is_first f.phase ≡ true → f.last ≡ zero_stamp
  pub none : is_first f.phase ≡ true → f.count ≡ 0
  -- the last cut is the stamp of the last grant, or the next stamp
  pub cut_is : IsEvent f.last_cut
  pub cut_low : rank f.last ≤ rank f.last_cut
  pub cut_high : rank f.last_cut ≤ rank f.last + 1
  pub kept : IsEvent f.kept

-- a stamp to which a federate that waits for a grant may go
pub record IsStep (f : Fed) (s : At) : Type 0 where
  pub rises : before f.last s ≡ true
  pub time : (nat_lt s.time horizon || s.time == max_time) ≡ true
  pub micro : s.micro ≤ 2 ^ 62 + 1 + (if is_iterating f s then f.count + 1 else 0)
  -- it iterates only where it asked to, and below its limit
  pub asked : is_iterating f s ≡ true → iterates f.request.mode ≡ true
  pub count : is_iterating f s ≡ true → f.count < f.settings.max_iterations
  -- else, but at the entry, it keeps to its grid and to its least distance
  pub lawful : f.phase ≡ Waiting → is_iterating f s ≡ false → is_lawful f.settings s.time ≡ true
  pub distance : f.phase ≡ Waiting → is_iterating f s ≡ false → f.last.time + delta_of f.settings ≤ s.time
