-- One part of an order of reading behind another.
use Rattle.std.proofs.Common.{◌≡◌, ℕ, List, Option, Result, Ok, Err, sym}
use Rattle.scenario_reading.specs.declared.unread.Unread.{Unread}
use Rattle.scenario_reading.specs.declared.unread.Unread.TheVariants.{FileFault, Refused, OutOfMemory}
use Rattle.scenario_reading.specs.Order.{Order, ends, ◌>>=◌, Reads}
use Rattle.scenario_reading.specs.Following.{Follows, CountsFaults}
use Rattle.scenario_reading.specs.Verdict.{Verdict, Says}
use Rattle.scenario_reading.proofs.Orders.{reads_then, reads_refused, asks_first, asks_then}

-- a first part that isn't read
pub first_unread : {A B X Y : Type 0} (view : X → A) (seen : Y → B) (content : List ℕ → Option (List ℕ)) (first : Order A) (next : A → Order B) (f : Unread)
    → Follows {X = X} view content first (Err f) → Follows {X = Y} seen content (first >>= next) (Err f)
first_unread view seen content first next (Refused r) read = reads_refused content first next r read
first_unread view seen content first next (FileFault path) read = asks_first content first next path read
first_unread view seen content first next OutOfMemory read = tt

-- what is answered behind a first part that is read
pub then_follows : {A B Y : Type 0} (seen : Y → B) (content : List ℕ → Option (List ℕ)) (first : Order A) (next : A → Order B) (x : A) (result : Result Y Unread)
    → Reads content first (Ok x) → Follows seen content (next x) result → Follows seen content (first >>= next) result
then_follows seen content first next x (Ok y) read there = reads_then content first next x (Ok (seen y)) read there
then_follows seen content first next x (Err (Refused r)) read there = reads_then content first next x (Err r) read there
then_follows seen content first next x (Err (FileFault path)) read there = asks_then content first next x path read there
then_follows seen content first next x (Err OutOfMemory) read there = tt

-- what is said without a file
pub said_follows : {B Y : Type 0} (seen : Y → B) (content : List ℕ → Option (List ℕ)) (said : Verdict B) (result : Result Y Unread)
    → Says seen said result → Follows seen content (ends said) result
said_follows seen content said (Ok y) says = sym says
said_follows seen content said (Err (Refused r)) says = sym says
said_follows seen content said (Err (FileFault path)) says = absurd says
said_follows seen content said (Err OutOfMemory) says = tt

pub said_counts : {B Y : Type 0} (seen : Y → B) (said : Verdict B) (result : Result Y Unread) (before after : ℕ) (path : List ℕ)
    → Says seen said result → after ≡ before → CountsFaults result before after path
said_counts seen said (Ok y) before after path says same = same
said_counts seen said (Err (Refused r)) before after path says same = same
said_counts seen said (Err (FileFault at)) before after path says same = absurd says
said_counts seen said (Err OutOfMemory) before after path says same = same
