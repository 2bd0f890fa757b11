-- What the code answers while it follows an order of reading.
use Rattle.std.specs.Prelude.{ℕ, ◌≡◌, List, Option, Result, Ok, Err}
use Rattle.hel_outside.specs.Faults.{Rose}
use Rattle.scenario_reading.specs.declared.unread.Unread.{Unread}
use Rattle.scenario_reading.specs.declared.unread.Unread.TheVariants.{FileFault, Refused, OutOfMemory}
use Rattle.scenario_reading.specs.Order.{Order, Reads, AsksFor}

-- what was answered, seen so, is how the order ends over this content, or the path of a failed read is
-- one that it comes to ask for, or memory was wanting
abbrev pub Follows : {X A : Type 0} → (X → A) → (List ℕ → Option (List ℕ)) → Order A → Result X Unread → Type 0
Follows seen content order (Ok x) = Reads content order (Ok (seen x))
Follows seen content order (Err (Refused refusal)) = Reads content order (Err refusal)
Follows seen content order (Err (FileFault path)) = AsksFor content order path
Follows seen content order (Err OutOfMemory) = Unit {0}

-- the count of faults rose only in a failed read, whose path is kept
abbrev pub CountsFaults : {X : Type 0} → Result X Unread → ℕ → ℕ → List ℕ → Type 0
CountsFaults (Err (FileFault path)) before after failed_path = Rose before after × (failed_path ≡ path)
CountsFaults result before after failed_path = after ≡ before
