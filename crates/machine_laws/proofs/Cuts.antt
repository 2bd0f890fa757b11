-- Events and cuts of a state that keeps the laws: a grant's cut is below `first` of each ancestor.
use Rattle.std.proofs.Common.{◌≡◌, inl, inr, ℕ, ◌<◌, ◌≤◌, Bool, true, false, arith, refl, sym, ◌∙◌, ap, List, [], ◌∷◌, Option, Some, None}
use Rattle.std.specs.Prelude.{if◌then◌else◌}
use Rattle.std.proofs.lemmas.Bool.{ltb-true, lt-ltb}
use Rattle.helics_time.specs.Stamp.{At, IsStamp, IsDue, before, rank}
use Rattle.helics_time.proofs.Ranks.{order_of, next_more}
use Rattle.hel_lists.specs.Members.{IsIn, Each}
use Rattle.time_state.specs.Fed.{Fed, IsFed, IsEvent, event_of, granted, item_stamp}
use Rattle.time_state.specs.Laws.{Counts}
use Rattle.time_state.specs.declared.Phase.TheVariants.{Waiting}
use Rattle.time_state.proofs.Events.{at_most_none, at_most_each}
use Rattle.time_state.proofs.Grants.{grant_stands}
use Rattle.time_state.proofs.Ranges.{event_stamp, goes_event}
use Rattle.time_state.proofs.Stamps.{item_goes}
use Rattle.machine_laws.specs.declared.refusal.Unlawful.{Unlawful}
use Rattle.machine_laws.specs.declared.refusal.Unlawful.TheVariants.{Early}
use Rattle.due_queue.specs.Item.{Parcel}
use Rattle.machine_laws.specs.Plan.{Plan, IsPlan}
use Rattle.machine_laws.specs.Machine.{State, member_at, dues_to, event_in, cut_in, holder_in}
use Rattle.machine_laws.specs.Laws.{Keeps}
use Rattle.machine_laws.proofs.Accepted.{MayGrant}
use Rattle.machine_laws.proofs.Handed.{dues_due, dues_in, event_is_stamp}

-- the undelivered dues to a federate are dues
pub dues_of : (p : Plan) (s : State) (a : ℕ) → Keeps p s → Each IsDue (dues_to s.items a)
dues_of p s a keeps = dues_due s.items a keeps.dues

-- events are stamps
pub event_in_is : (p : Plan) (s : State) (a : ℕ) → Keeps p s → IsStamp (event_in s a)
event_in_is p s a keeps = event_stamp (member_at s a).time (dues_to s.items a) (keeps.feds a) (dues_of p s a keeps)

-- a federate that was granted keeps its facts
pub granted_is : (p : Plan) (s : State) (f : ℕ) → Keeps p s → MayGrant p s f → IsFed (granted (member_at s f).time (dues_to s.items f))
granted_is p s f keeps may = grant_stands (member_at s f).time (dues_to s.items f) (keeps.feds f) (dues_of p s f keeps) may.asks

-- so the cut of a lawful grant is a stamp of a federate that hasn't finished
pub cut_is : (p : Plan) (s : State) (f : ℕ) → Keeps p s → MayGrant p s f → IsEvent (cut_in s f)
cut_is p s f keeps may = (granted_is p s f keeps may).cut_is

-- and so is the stamp of an item
pub item_event : (fed : Fed) (due : At) → IsFed fed → fed.phase ≡ Waiting → IsDue due → IsEvent (item_stamp fed due)
item_event fed due is waits is_due = goes_event fed (item_stamp fed due) is (item_goes fed due is waits is_due)

-- `first` is above each stamp of a federate that hasn't finished
pub first_above : (p : Plan) (a : ℕ) (s : At) → IsPlan p → IsEvent s → rank s < rank (p.first a s)
first_above p a s plan is =
    let above = plan.above a s (event_is_stamp s is) in
    let next = next_more s (event_is_stamp s is) in
    let time = is.time in
    let micro = is.micro in
    omega (arith, above, next, time, micro)

-- `first` of an event is at most `first` of the event over no item
pub first_none : (p : Plan) (s : State) (a : ℕ) → IsPlan p → Keeps p s → rank (p.first a (event_in s a)) ≤ rank (p.first a (event_of (member_at s a).time []))
first_none p s a plan keeps =
    plan.rises a (event_in s a) (event_of (member_at s a).time []) (event_in_is p s a keeps) (event_stamp (member_at s a).time [] (keeps.feds a) (λ d none. absurd none))
    (at_most_none (member_at s a).time (dues_to s.items a) (keeps.feds a) (dues_of p s a keeps))

-- and at most `first` of the stamp of each undelivered item that counts
pub first_each : (p : Plan) (s : State) (i : Parcel) → IsPlan p → Keeps p s → Counts (member_at s i.target).time → IsIn i s.items →
    rank (p.first i.target (event_in s i.target)) ≤ rank (p.first i.target (item_stamp (member_at s i.target).time i.due))
first_each p s i plan keeps counts among =
    let fed : Fed = (member_at s i.target).time in
    let is = keeps.feds i.target in
    plan.rises i.target (event_in s i.target) (item_stamp fed i.due) (event_in_is p s i.target keeps)
    (event_is_stamp (item_stamp fed i.due) (item_event fed i.due is counts.0 (keeps.dues i among)))
    (at_most_each fed (dues_to s.items i.target) i.due is (dues_of p s i.target keeps) counts (dues_in s.items i among))

-- no ancestor holds a grant where the cut is before each one's `first`
pub none_holds : (p : Plan) (s : State) (cut : At) (some : List ℕ) → holder_in p s cut some ≡ None → Each (λ a. before cut (p.first a (event_in s a)) ≡ true) some
none_holds p s cut [] none a among = absurd among
none_holds p s cut (b ∷ some) none a among =
    let k = passed (before cut (p.first b (event_in s b))) (holder_in p s cut some) none in
    elim among [
      | inl here ↦ ap (λ (x : ℕ). before cut (p.first x (event_in s x))) here ∙ k.0
      | inr later ↦ none_holds p s cut some k.1 a later
    ]
  where
    passed : (t : Bool) (rest : Option Unlawful) → (if t then rest else Some (Early b (event_in s b))) ≡ None → (t ≡ true) × (rest ≡ None)
    passed true rest e = (refl, e)
    passed false rest e = cc

-- and where it is before each, none holds it
holds_none : (p : Plan) (s : State) (cut : At) (some : List ℕ) → Each (λ a. before cut (p.first a (event_in s a)) ≡ true) some → holder_in p s cut some ≡ None
holds_none p s cut [] each = refl
holds_none p s cut (a ∷ some) each =
    ap (λ (b : Bool). if b then holder_in p s cut some else Some (Early a (event_in s a))) (each a (inl refl)) ∙ holds_none p s cut some (λ b among. each b (inr among))

-- the cut of a lawful grant is below each ancestor's `first`
pub cut_below : (p : Plan) (s : State) (f a : ℕ) → IsPlan p → Keeps p s → MayGrant p s f → IsIn a (p.ancestors f) → rank (cut_in s f) < rank (p.first a (event_in s a))
cut_below p s f a plan keeps may anc =
    let cut : At = cut_in s f in
    let first : At = p.first a (event_in s a) in
    let order = order_of cut first (event_is_stamp cut (cut_is p s f keeps may)) (plan.stamps a (event_in s a) (event_in_is p s a keeps)) in
    ltb-true (rank cut) (rank first) (sym order ∙ none_holds p s cut (p.ancestors f) may.none a anc)

-- and where it is, no ancestor holds the grant
pub below_lawful : (p : Plan) (s : State) (f : ℕ) → IsPlan p → Keeps p s → IsEvent (cut_in s f) → ((a : ℕ) → IsIn a (p.ancestors f) → rank (cut_in s f) < rank (p.first a (event_in s a))) →
    holder_in p s (cut_in s f) (p.ancestors f) ≡ None
below_lawful p s f plan keeps is below = holds_none p s cut (p.ancestors f) (λ a anc.
    (let first : At = p.first a (event_in s a) in
    order_of cut first (event_is_stamp cut is) (plan.stamps a (event_in s a) (event_in_is p s a keeps)) ∙ lt-ltb (rank cut) (rank first) (below a anc)))
  where
    cut : At
    cut = cut_in s f
