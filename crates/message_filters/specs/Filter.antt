-- What one filter does with a message.
use Rattle.std.specs.Prelude.{ℕ, ◌%◌, Bool, false, nat_lt, Option, Some, None}
use Rattle.hel_values.specs.declared.EndRef.{EndRef}
use Rattle.message_filters.specs.declared.filter.Filter.{Filter}
use Rattle.message_filters.specs.declared.filter.Filter.TheVariants.{Delay, Drop, Reroute}
use Rattle.message_filters.specs.Chance.{drop_word}
use Rattle.message_filters.specs.Limits.{million}

-- by how much it delays
abbrev pub delay_of : Filter → ℕ
delay_of (Delay delay) = delay
delay_of (Drop per_million seed) = 0
delay_of (Reroute end) = 0

-- where it sends instead
abbrev pub reroute_of : Filter → Option EndRef
reroute_of (Delay delay) = None
reroute_of (Drop per_million seed) = None
reroute_of (Reroute end) = Some end

-- it drops a message with this source and sequence number
abbrev pub drops : ℕ → ℕ → Filter → Bool
drops source sequence (Delay delay) = false
drops source sequence (Drop per_million seed) = nat_lt (drop_word seed source sequence % million) per_million
drops source sequence (Reroute end) = false
