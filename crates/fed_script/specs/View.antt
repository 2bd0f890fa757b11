-- What a federate sees, and what a grant changes of it.
use Rattle.std.specs.Prelude.{ℕ, ℤ, pos, Option, Some, None, List, [], ◌∷◌, ◌++◌, map, drop, slice_get, slice_index_or, slice_set, flat_map}
use Rattle.hel_values.specs.declared.EndRef.{EndRef}
use Rattle.hel_values.specs.declared.Value.{Value}
use Rattle.hel_values.specs.declared.Value.TheVariants.{Int, Text, Bytes}
use Rattle.value_updates.specs.Input.{Input, applies, starts_grant, opening, after}
use Rattle.endpoint_messages.specs.declared.Letter.{Letter}
use Rattle.due_queue.specs.Item.{Parcel}
use Rattle.due_queue.specs.declared.item.Content.{Content}
use Rattle.due_queue.specs.declared.item.Content.TheVariants.{Value as ValueContent, Message}

pub record Sight : Type 0 where
  -- the time of the last grant
  pub time : ℕ
  pub inputs : List Input
  -- the letters of each endpoint, the oldest first
  pub inboxes : List (List Letter)

-- the integer of a value, and 0 where it is none
abbrev pub integer_of : Option Value → ℤ
integer_of (Some (Int n)) = n
integer_of (Some (Text t)) = pos 0
integer_of (Some (Bytes b)) = pos 0
integer_of None = pos 0

abbrev pub integer_in : Option Input → ℤ
integer_in (Some i) = integer_of i.value
integer_in None = pos 0

-- what an input counts in a sum: past the last input, 0
abbrev pub integer_at : Sight → ℕ → ℤ
integer_at v input = integer_in (slice_get v.inputs input)

-- the letters of an endpoint: past the last inbox, none
abbrev pub letters_at : Sight → ℕ → List Letter
letters_at v endpoint = slice_index_or v.inboxes endpoint []

-- the oldest letter of an endpoint is taken
abbrev pub taken : Sight → ℕ → Sight
taken v endpoint = record v { inboxes = slice_set v.inboxes endpoint (drop 1 (letters_at v endpoint)) }

-- the inputs as a grant begins
abbrev pub marks_cleared : List Input → List Input
marks_cleared inputs = map (λ (i : Input). after i starts_grant) inputs

-- the values among items, in order, each with the input that it is for
abbrev pub value_in : Content → List (ℕ × Value)
value_in (ValueContent input publication value) = (input, value) ∷ []
value_in (Message m) = []

abbrev pub values_in : List Parcel → List (ℕ × Value)
values_in items = flat_map (λ (i : Parcel). value_in i.content) items

-- the messages among them as letters, each with the endpoint that it is for; names gives the global name of an endpoint
abbrev pub letter_in : (EndRef → List ℕ) → Content → List (ℕ × Letter)
letter_in names (ValueContent input publication value) = []
letter_in names (Message m) = (m.destination.index, record { source = names m.original_source; payload = m.payload }) ∷ []

abbrev pub letters_in : (EndRef → List ℕ) → List Parcel → List (ℕ × Letter)
letters_in names items = flat_map (λ (i : Parcel). letter_in names i.content) items

-- the inputs after values that arrive one after another: there is none past the last
abbrev pub applied : List Input → List (ℕ × Value) → List Input
applied inputs [] = inputs
applied inputs (v ∷ values) = applied (slice_set inputs v.0 (after (slice_index_or inputs v.0 opening) (applies v.1))) values

-- the inboxes after letters that arrive one after another
abbrev pub delivered : List (List Letter) → List (ℕ × Letter) → List (List Letter)
delivered inboxes [] = inboxes
delivered inboxes (l ∷ letters) = delivered (slice_set inboxes l.0 (slice_index_or inboxes l.0 [] ++ l.1 ∷ [])) letters

-- a grant at this time, which hands over these items
abbrev pub granted : (EndRef → List ℕ) → Sight → ℕ → List Parcel → Sight
granted names v time items =
    record {
      time = time;
      inputs = applied (marks_cleared v.inputs) (values_in items);
      inboxes = delivered v.inboxes (letters_in names items);
    }
