-- A queue of items: what its calls do.
use Rattle.std.specs.Prelude.{ℕ, ◌≡◌, Bool, true, false, not, List, [], ◌∷◌, ◌++◌, Option, Some, None}
use Rattle.hel_lists.specs.Members.{Each}
use Rattle.helics_time.specs.Stamp.{At, IsDue}
use Rattle.due_queue.specs.Item.{Parcel, is_due, is_made_by}
use Rattle.due_queue.specs.Order.{is_sooner, InDueOrder}

-- in order, and each with a due that an item may have
pub record IsQueue (items : List Parcel) : Type 0 where
  pub in_order : InDueOrder items
  pub dues : Each (λ i. IsDue i.due) items

-- item stands behind all that it isn't sooner than, and ahead of the others
abbrev pub IsPutIn : Parcel → List Parcel → List Parcel → Type 0
IsPutIn item before after =
    (ahead : List Parcel) × (behind : List Parcel) × (before ≡ ahead ++ behind) × (after ≡ ahead ++ item ∷ behind) × Each (λ x. is_sooner item x ≡ false) ahead
    × Each (λ x. is_sooner item x ≡ true) behind

-- the due of the first, which is the least
abbrev pub first_due : List Parcel → Option At
first_due [] = None
first_due (i ∷ items) = Some i.due

-- the first is due by the cut
abbrev pub is_first_due : At → List Parcel → Bool
is_first_due cut [] = false
is_first_due cut (i ∷ items) = is_due cut i

-- none is due by the cut, or the first is, and goes
abbrev pub TakesDue : At → List Parcel → Option Parcel → List Parcel → Type 0
TakesDue cut before None after = Each (λ i. is_due cut i ≡ false) before × (after ≡ before)
TakesDue cut before (Some i) after = (is_due cut i ≡ true) × (before ≡ i ∷ after)

-- it wasn't made by that call
abbrev pub is_made_otherwise : ℕ → ℕ → Parcel → Bool
is_made_otherwise source seq i = not (is_made_by source seq i)
