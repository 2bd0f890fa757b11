-- Lists of calls of a queue with their answers, and what a queue holds after them.
use Rattle.std.specs.Prelude.{ℕ, ◌≡◌, Bool, if◌then◌else◌, List, [], ◌∷◌, ◌++◌, Option, Some, None}
use Rattle.std.specs.List.{filter, count_by}
use Rattle.std.specs.Str.{bytes_eq}
use Rattle.helics_time.specs.Stamp.{At}
use Rattle.due_queue.specs.Item.{Parcel, is_made_by}
use Rattle.due_queue.specs.Order.{due_key, InDueOrder, enqueue}
use Rattle.due_queue.specs.Queue.{TakesDue, is_made_otherwise}

-- a call that puts an item in, one with a cut and the item that it took out, and one that took back so many
pub data Call : Type 0 where
  puts : Parcel → Call
  takes_due : At → Option Parcel → Call
  takes_back : ℕ → ℕ → ℕ → Call

-- what the clauses of the call say of the content before and after it
abbrev pub Does : List Parcel → Call → List Parcel → Type 0
Does before (puts item) after = after ≡ enqueue item before
Does before (takes_due cut taken) after = TakesDue cut before taken after
Does before (takes_back source seq count) after = (after ≡ filter (is_made_otherwise source seq) before) × (count ≡ count_by (is_made_by source seq) before)

-- these calls, one after another, lead from one content to another
abbrev pub Runs : List Parcel → List Call → List Parcel → Type 0
Runs before [] after = after ≡ before
Runs before (call ∷ calls) after = (between : List Parcel) × Does before call between × Runs between calls after

-- of this place
abbrev pub is_at : List ℕ → Parcel → Bool
is_at place i = bytes_eq (due_key i) place

-- without the first of this place
abbrev pub without : List ℕ → List Parcel → List Parcel
without place [] = []
without place (i ∷ items) = if is_at place i then items else i ∷ without place items

-- the items put and not taken out, as they came: an item that is taken out is the first that came of those of its place
abbrev pub kept : List Parcel → List Call → List Parcel
kept items [] = items
kept items (puts item ∷ calls) = kept (items ++ item ∷ []) calls
kept items (takes_due cut None ∷ calls) = kept items calls
kept items (takes_due cut (Some item) ∷ calls) = kept (without (due_key item) items) calls
kept items (takes_back source seq count ∷ calls) = kept (filter (is_made_otherwise source seq) items) calls

-- content is in order, and has of each place the same items as came, in order of coming
pub record Arranges (came content : List Parcel) : Type 0 where
  pub in_order : InDueOrder content
  pub same : (place : List ℕ) → filter (is_at place) content ≡ filter (is_at place) came
