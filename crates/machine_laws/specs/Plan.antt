-- What the machine needs of a plan: a record of functions, so that its laws hold over any tables.
use Rattle.std.specs.Prelude.{ℕ, ◌+◌, ◌^◌, ◌<◌, ◌≤◌, ◌≡◌, ◌≢◌, ◌⊎◌, Bool, nat_lt, ◌==◌, if◌then◌else◌, List, map, Option}
use Rattle.std.specs.List.Sorted.{IsStrictlyIncreasing}
use Rattle.std.specs.Option.{option_to_list}
use Rattle.helics_time.specs.Time.{horizon}
use Rattle.helics_time.specs.Stamp.{At, IsStamp, next_of, rank}
use Rattle.helics_time.specs.Settings.{Terms, IsTerms}
use Rattle.hel_lists.specs.Members.{IsIn, Each}
use Rattle.hel_values.specs.declared.Value.{Value}
use Rattle.due_queue.specs.declared.item.Content.{Content}
use Rattle.due_queue.specs.Item.{Parcel}
use Rattle.time_state.specs.Fed.{Fed}
use Rattle.machine_laws.specs.declared.refusal.CallRefusal.{CallRefusal}

-- a call that sends: a publication and a value, or an endpoint, the name of a destination and a payload
pub data Call : Type 0 where
  publish : ℕ → Value → Call
  send : ℕ → List ℕ → List ℕ → Call

-- one item that a call makes: for whom, after which delay in all, and what it hands over, by the time of its due
pub record Leg : Type 0 where
  pub target : ℕ
  pub delay : ℕ
  pub content : ℕ → Content

-- the parts of a plan that the machine reads
pub record Plan : Type 0 where
  pub settings : List Terms
  -- the core of a federate
  pub core : ℕ → ℕ
  pub is_core : ℕ → Bool
  -- the other federates on which one depends
  pub ancestors : ℕ → List ℕ
  -- why a federate has no such call
  pub objects : ℕ → Call → Option CallRefusal
  -- of a federate, its publication and a value
  pub publishes : ℕ → ℕ → Value → List Leg
  -- of a federate, its endpoint, a sequence number, a destination and a payload
  pub sends : ℕ → ℕ → ℕ → List ℕ → List ℕ → Option Leg
  -- what a federate sends to another at this stamp or later isn't due earlier
  pub first : ℕ → At → At

-- what a call of this sequence number sends: a publish to each input, a send one item or none
abbrev pub legs_of : Plan → ℕ → ℕ → Call → List Leg
legs_of p f seq (publish publication value) = p.publishes f publication value
legs_of p f seq (send endpoint destination payload) = option_to_list (p.sends f endpoint seq destination payload)

-- the due of what a federate sends
abbrev pub due_of : Fed → ℕ → Leg → At
due_of fed f leg =
    if nat_lt 0 leg.delay then record { time = fed.last.time + leg.delay; micro = 0 }
    else (if leg.target == f then next_of fed.last_cut else next_of fed.last)

-- the item of a leg
abbrev pub item_of : Fed → ℕ → ℕ → Leg → Parcel
item_of fed f seq leg =
    record {
      source = f;
      seq = seq;
      target = leg.target;
      due = due_of fed f leg;
      content = leg.content (due_of fed f leg).time;
    }

-- what a federate puts in by a call of this sequence number
abbrev pub items_by : Plan → Fed → ℕ → ℕ → Call → List Parcel
items_by p fed f seq call = map (item_of fed f seq) (legs_of p f seq call)

-- what the laws need of a plan
pub record IsPlan (p : Plan) : Type 0 where
  pub settings : Each IsTerms p.settings
  -- `first` is a stamp, never falls where its stamp rises, is at least the next stamp, and no item to another federate is due before it
  pub stamps : (a : ℕ) (s : At) → IsStamp s → IsStamp (p.first a s)
  pub rises : (a : ℕ) (s t : At) → IsStamp s → IsStamp t → rank s ≤ rank t → rank (p.first a s) ≤ rank (p.first a t)
  pub above : (a : ℕ) (s : At) → IsStamp s → rank (next_of s) ≤ rank (p.first a s)
  pub sent : (a seq : ℕ) (call : Call) (leg : Leg) (fed : Fed) → IsIn leg (legs_of p a seq call) → leg.target ≢ a → fed.last.time < horizon → fed.last.micro < 2 ^ 62 →
      rank (p.first a fed.last) ≤ rank (due_of fed a leg)
  pub delays : (a seq : ℕ) (call : Call) (leg : Leg) → IsIn leg (legs_of p a seq call) → leg.delay < 2 ^ 61
  -- a target is the sender or depends on it, and an ancestor's ancestor is an ancestor
  pub targets : (a seq : ℕ) (call : Call) (leg : Leg) → IsIn leg (legs_of p a seq call) → (leg.target ≡ a) ⊎ IsIn a (p.ancestors leg.target)
  pub closed : (a b f : ℕ) → IsIn a (p.ancestors b) → IsIn b (p.ancestors f) → a ≢ f → IsIn a (p.ancestors f)
  -- ancestors ascend, and no federate is one of its own
  pub ascend : (f : ℕ) → IsStrictlyIncreasing (p.ancestors f)
  pub others : (f : ℕ) → IsIn f (p.ancestors f) → ⊥
