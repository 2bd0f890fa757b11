-- An item: a value or a message that is under way to a federate.
use Rattle.std.specs.Prelude.{ℕ, Bool, false, ◌==◌, ◌&&◌}
use Rattle.std.specs.Str.{bytes_eq}
use Rattle.helics_time.specs.Stamp.{At, at_most}
use Rattle.hel_values.specs.Values.{same_value, same_end}
use Rattle.due_queue.specs.declared.item.Message.{Message as MessageRecord}
use Rattle.due_queue.specs.declared.item.Content.{Content}
use Rattle.due_queue.specs.declared.item.Content.TheVariants.{Value, Message}

pub record Parcel : Type 0 where
  pub source : ℕ
  -- the sequence number of the call that made it
  pub seq : ℕ
  pub target : ℕ
  pub due : At
  pub content : Content

-- the number of the interface of the target that it is for
abbrev pub interface_of : Content → ℕ
interface_of (Value input publication value) = input
interface_of (Message m) = m.destination.index

-- it is to this federate
abbrev pub is_to : ℕ → Parcel → Bool
is_to f i = i.target == f

-- it is due by the cut
abbrev pub is_due : At → Parcel → Bool
is_due cut i = at_most i.due cut

-- it was made by the call of this federate with this sequence number
abbrev pub is_made_by : ℕ → ℕ → Parcel → Bool
is_made_by source seq i = i.source == source && i.seq == seq

-- whether two are the same
abbrev pub same_message : MessageRecord → MessageRecord → Bool
same_message a b =
    same_end a.source b.source && same_end a.original_source b.original_source && same_end a.destination b.destination
    && same_end a.original_destination b.original_destination && a.time == b.time && bytes_eq a.payload b.payload

abbrev pub same_content : Content → Content → Bool
same_content (Value input publication value) (Value input' publication' value') = input == input' && same_end publication publication' && same_value value value'
same_content (Message a) (Message b) = same_message a b
same_content a b = false

abbrev pub same_parcel : Parcel → Parcel → Bool
same_parcel i j =
    i.source == j.source && i.seq == j.seq && i.target == j.target && i.due.time == j.due.time && i.due.micro == j.due.micro && same_content i.content j.content
