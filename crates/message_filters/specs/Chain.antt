-- What a chain of filters makes of a message.
use Rattle.std.specs.Prelude.{ℕ, ◌*◌, ◌<◌, ◌≤◌, List, sum_by}
use Rattle.std.specs.List.{fold, filter_map, position_from}
use Rattle.std.specs.Option.{option_map_or}
use Rattle.hel_values.specs.declared.EndRef.{EndRef}
use Rattle.message_filters.specs.declared.filter.Filter.{Filter}
use Rattle.message_filters.specs.declared.chain.Filtered.{Filtered}
use Rattle.message_filters.specs.declared.chain.Filtered.TheVariants.{Kept, Dropped}
use Rattle.message_filters.specs.Filter.{delay_of, reroute_of, drops}
use Rattle.helics_time.specs.Time.{longest_span}
use Rattle.message_filters.specs.Limits.{most_filters}

-- the last of x and xs
abbrev pub last_of : {A : Type 0} → A → List A → A
last_of x = fold (λ before y. y) x

-- a message that no filter drops goes to the last reroute's endpoint, and to `dest` where there is none; the delays add up
abbrev pub kept_of : List Filter → EndRef → Filtered
kept_of chain dest = Kept (last_of dest (filter_map reroute_of chain)) (sum_by delay_of chain)

-- the first filter that drops the message is the one that dropped it
unfoldable pub filtered_of : List Filter → ℕ → ℕ → EndRef → Filtered
filtered_of chain source sequence dest =
    option_map_or Dropped (position_from (drops source sequence) 0 chain) (kept_of chain dest)

-- the delay is one of so few filters, the place one of a chain
abbrev pub KeepsBounds : Filtered → Type 0
KeepsBounds (Kept dest delay) = delay ≤ most_filters * longest_span
KeepsBounds (Dropped place) = place < most_filters
