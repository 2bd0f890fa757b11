-- Laws of the canonical order of items, of a queue's order, and of queues over lists of calls.
use Rattle.std.specs.Prelude.{ℕ, ◌≡◌, Bool, true, false, not, List, [], ◌∷◌, ◌++◌}
use Rattle.std.specs.List.{filter}
use Rattle.hel_lists.specs.Members.{Each}
use Rattle.helics_time.specs.Stamp.{At, at_most}
use Rattle.due_queue.specs.Item.{Parcel, is_to, is_due}
use Rattle.due_queue.specs.Order.{key, comes_before, is_sooner, InOrder, InDueOrder, insert, enqueue}
use Rattle.due_queue.specs.Runs.{Call, Runs, kept, Arranges}

-- of the items to all federates, in canonical order
pub record CanonicalLaws : Type 0 where
  pub inserts : (i : Parcel) (items : List Parcel) → InOrder items → InOrder (insert i items)
  pub filters : (p : Parcel → Bool) (items : List Parcel) → InOrder items → InOrder (filter p items)
  -- two that don't share a place may be inserted in either order
  pub commutes : (i j : Parcel) (items : List Parcel) → (key i ≡ key j → i ≡ j) → insert i (insert j items) ≡ insert j (insert i items)
  -- among the items to one federate it is a queue's order
  pub one_target : (i j : Parcel) → i.target ≡ j.target → comes_before i j ≡ is_sooner i j
  -- so those to one federate are a queue, and an insertion is put into the queue of its target alone
  pub queue : (f : ℕ) (items : List Parcel) → InOrder items → InDueOrder (filter (is_to f) items)
  pub put : (i : Parcel) (items : List Parcel) → InOrder items → filter (is_to i.target) (insert i items) ≡ enqueue i (filter (is_to i.target) items)
  pub put_elsewhere : (f : ℕ) (i : Parcel) (items : List Parcel) → is_to f i ≡ false → filter (is_to f) (insert i items) ≡ filter (is_to f) items

-- of the items in a queue, in its order
pub record QueueLaws : Type 0 where
  pub puts : (i : Parcel) (items : List Parcel) → InDueOrder items → InDueOrder (enqueue i items)
  pub filters : (p : Parcel → Bool) (items : List Parcel) → InDueOrder items → InDueOrder (filter p items)
  -- a cut splits it into what is due and what isn't
  pub splits : (cut : At) (items : List Parcel) → InDueOrder items → items ≡ filter (is_due cut) items ++ filter (λ i. not (is_due cut i)) items
  -- the first has the least due
  pub least : (i : Parcel) (items : List Parcel) → InDueOrder (i ∷ items) → Each (λ j. at_most i.due j.due ≡ true) (i ∷ items)
  -- after any calls of an empty queue its content is the ordered list of the items put and not taken out
  pub runs : (calls : List Call) (content : List Parcel) → Runs [] calls content → Arranges (kept [] calls) content
  -- and there is only one such list
  pub one : (came content other : List Parcel) → Arranges came content → Arranges came other → content ≡ other
