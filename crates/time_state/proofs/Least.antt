-- Events over lists of items that agree, and that the least due decides.
use Rattle.std.proofs.Common.{◌≡◌, inl, inr, ◌≤◌, arith, refl, sym, subst, List, [], ◌∷◌}
use Rattle.helics_time.specs.Stamp.{At, rank, IsDue}
use Rattle.time_state.specs.Fed.{Fed, IsFed, item_stamp, event_of}
use Rattle.time_state.proofs.Stamps.{item_rises}
use Rattle.helics_time.proofs.Ranks.{same_of}
use Rattle.hel_lists.specs.Members.{IsIn, Each}
use Rattle.time_state.specs.Laws.{Counts}
use Rattle.time_state.proofs.Events.{at_most_none, at_most_each, greatest}
use Rattle.time_state.proofs.Ranges.{event_stamp}

-- over fewer items the event is the same or later
pub event_fewer : (f : Fed) (dues fewer : List At) → IsFed f → Each IsDue dues → ((d : At) → IsIn d fewer → IsIn d dues) → rank (event_of f dues) ≤ rank (event_of f fewer)
event_fewer f dues fewer fed due within =
    greatest f fewer (rank (event_of f dues)) (at_most_none f dues fed due) (λ d among counts. at_most_each f dues d fed due counts (within d among))

-- two lists of dues give one event where neither has an item below the other's event
pub event_same : (f : Fed) (dues more : List At) → IsFed f → Each IsDue dues → Each IsDue more →
    ((d : At) → IsIn d more → Counts f → rank (event_of f dues) ≤ rank (item_stamp f d)) →
    ((d : At) → IsIn d dues → Counts f → rank (event_of f more) ≤ rank (item_stamp f d)) → event_of f dues ≡ event_of f more
event_same f dues more fed due due_more low low_more =
    let up = greatest f more (rank (event_of f dues)) (at_most_none f dues fed due) low in
    let down = greatest f dues (rank (event_of f more)) (at_most_none f more fed due_more) low_more in
    same_of (event_of f dues) (event_of f more) (event_stamp f dues fed due) (event_stamp f more fed due_more) (omega (arith, up, down))

-- the least due decides
pub least_decides : (f : Fed) (dues : List At) (d : At) → IsFed f → Each IsDue dues → IsIn d dues → ((e : At) → IsIn e dues → rank d ≤ rank e) → event_of f dues ≡ event_of f (d ∷ [])
least_decides f dues d fed due among least =
    let one : Each IsDue (d ∷ []) = λ e is. elim is [ inl here ↦ subst (λ (x : At). IsDue x) (sym here) (due d among) | inr none ↦ absurd none ] in
    event_same f dues (d ∷ []) fed due one
    (λ e is counts. elim is [
      | inl here ↦ subst (λ (x : At). rank (event_of f dues) ≤ rank (item_stamp f x)) (sym here) (at_most_each f dues d fed due counts among)
      | inr none ↦ absurd none
    ])
    (λ e is counts.
    (let most = at_most_each f (d ∷ []) d fed one counts (inl refl) in
    let rise = item_rises f d e fed counts.0 (due d among) (due e is) (least e is) in
    omega (arith, most, rise)))
