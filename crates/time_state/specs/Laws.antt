-- Laws of one federate's events and cuts.
use Rattle.std.specs.Prelude.{ℕ, ◌+◌, ◌<◌, ◌≤◌, ◌≡◌, ◌≢◌, ◌⊎◌, ◌↔◌, true, false, List, [], ◌∷◌, None}
use Rattle.helics_time.specs.Time.{max_time}
use Rattle.helics_time.specs.Stamp.{At, never, rank, IsDue}
use Rattle.time_state.specs.Fed.{Fed, IsEvent, IsFed, IsStep, created, is_live, is_asking, request_stamp, item_stamp, event_of, cut_of, granted, requested, ended, enter_refusal, request_refusal}
use Rattle.iteration_rules.specs.declared.Mode.{Mode}
use Rattle.time_state.specs.declared.Cause.{Cause}
use Rattle.time_state.specs.declared.Cause.TheVariants.{Finished}
use Rattle.time_state.specs.declared.Phase.TheVariants.{Created, Initializing, Entering, Running, Waiting, Ended}
use Rattle.helics_time.specs.Settings.{Terms, IsTerms}
use Rattle.hel_lists.specs.Members.{IsIn, Each}

-- items count for its event
abbrev pub Counts : Fed → Type 0
Counts f = (f.phase ≡ Waiting) × (f.settings.uninterruptible ≡ false)

-- a call of a federate, but a grant, that its time takes
pub data Turn : Type 0 where
  begins : Turn
  enters : Turn
  requests : ℕ → Mode → Turn
  finishes : Turn

-- when it may be made
abbrev pub MayTurn : Fed → Turn → Type 0
MayTurn f begins = f.phase ≡ Created
MayTurn f enters = enter_refusal f ≡ None
MayTurn f (requests time mode) = (request_refusal f ≡ None) × (time ≤ max_time)
MayTurn f finishes = (f.phase ≡ Initializing) ⊎ (f.phase ≡ Running)

-- what the federate is after it
abbrev pub turned : Fed → Turn → Fed
turned f begins = record f { phase = Initializing }
turned f enters = record f { phase = Entering }
turned f (requests time mode) = requested f time mode
turned f finishes = ended f Finished []

pub record FedLaws : Type 0 where
  -- the stamps of a waiting federate's request and items are above its last grant
  pub asked : (f : Fed) → IsFed f → f.phase ≡ Waiting → rank f.last < rank (request_stamp f)
  pub above : (f : Fed) (d : At) → IsFed f → f.phase ≡ Waiting → IsDue d → rank f.last < rank (item_stamp f d)
  -- an item's stamp isn't below its due, and rises with it
  pub due : (f : Fed) (d : At) → IsFed f → f.phase ≡ Waiting → IsDue d → rank d ≤ rank (item_stamp f d)
  pub rises : (f : Fed) (d e : At) → IsFed f → f.phase ≡ Waiting → IsDue d → IsDue e → rank d ≤ rank e → rank (item_stamp f d) ≤ rank (item_stamp f e)
  -- the event is the greatest stamp that isn't above the event over no item nor, where items count, above an item's
  pub at_most_none : (f : Fed) (dues : List At) → IsFed f → Each IsDue dues → rank (event_of f dues) ≤ rank (event_of f [])
  pub at_most_each : (f : Fed) (dues : List At) (d : At) → IsFed f → Each IsDue dues → Counts f → IsIn d dues → rank (event_of f dues) ≤ rank (item_stamp f d)
  pub greatest : (f : Fed) (dues : List At) (c : ℕ) → c ≤ rank (event_of f []) → ((d : At) → IsIn d dues → Counts f → c ≤ rank (item_stamp f d)) → c ≤ rank (event_of f dues)
  -- the least due decides
  pub decides : (f : Fed) (dues : List At) (d : At) → IsFed f → Each IsDue dues → IsIn d dues → ((e : At) → IsIn e dues → rank d ≤ rank e) → event_of f dues ≡ event_of f (d ∷ [])
  -- a grant goes to a step: above the last grant, on the grid or an iteration that was asked for
  pub step : (f : Fed) (dues : List At) → IsFed f → Each IsDue dues → is_asking f.phase ≡ true → IsStep f (event_of f dues)
  -- the cut lies between the event and the next stamp
  pub cut_low : (f : Fed) (dues : List At) → IsFed f → Each IsDue dues → rank (event_of f dues) ≤ rank (cut_of f dues)
  pub cut_high : (f : Fed) (dues : List At) → IsFed f → Each IsDue dues → rank (cut_of f dues) ≤ rank (event_of f dues) + 1
  -- the event falls at no turn, whatever the items are then, and stays at a grant and at an end that is no call
  pub turns : (f : Fed) (t : Turn) (dues more : List At) → IsFed f → Each IsDue dues → Each IsDue more → MayTurn f t → rank (event_of f dues) ≤ rank (event_of (turned f t) more)
  pub grants : (f : Fed) (dues more : List At) → event_of (granted f dues) more ≡ event_of f dues
  pub ends : (f : Fed) (c : Cause) (dues more : List At) → c ≢ Finished → event_of (ended f c dues) more ≡ event_of f dues
  -- the event is NEVER exactly where it has finished, and every other event and every cut is below
  pub never_is : (f : Fed) (dues : List At) → IsFed f → Each IsDue dues → (event_of f dues ≡ never) ↔ (f.phase ≡ Ended Finished)
  pub event_is : (f : Fed) (dues : List At) → IsFed f → Each IsDue dues → f.phase ≢ Ended Finished → IsEvent (event_of f dues)
  pub cut_is : (f : Fed) (dues : List At) → IsFed f → Each IsDue dues → f.phase ≢ Ended Finished → IsEvent (cut_of f dues)
  -- what every federate keeps holds at the beginning and after each turn, grant and end
  pub opening : (s : Terms) → IsTerms s → IsFed (created s)
  pub turn_stands : (f : Fed) (t : Turn) → IsFed f → MayTurn f t → IsFed (turned f t)
  pub grant_stands : (f : Fed) (dues : List At) → IsFed f → Each IsDue dues → is_asking f.phase ≡ true → IsFed (granted f dues)
  pub end_stands : (f : Fed) (c : Cause) (dues : List At) → IsFed f → Each IsDue dues → is_live f.phase ≡ true → IsFed (ended f c dues)
