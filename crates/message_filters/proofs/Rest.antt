-- What the rest of a chain makes of a message that passed the filters before it.
use Rattle.std.proofs.Common.{ℕ, ◌+◌, List, fold}
use Rattle.std.specs.List.{filter_map, position_from}
use Rattle.std.specs.Option.{option_map_or}
use Rattle.hel_values.specs.declared.EndRef.{EndRef}
use Rattle.message_filters.specs.declared.filter.Filter.{Filter}
use Rattle.message_filters.specs.declared.chain.Filtered.{Filtered}
use Rattle.message_filters.specs.declared.chain.Filtered.TheVariants.{Kept, Dropped}
use Rattle.message_filters.specs.Filter.{delay_of, reroute_of, drops}
use Rattle.message_filters.specs.Chain.{last_of}

module _ (source sequence : ℕ) where
  -- the first filter of the rest has this place, and the message goes to `dest`, late by `delay` so far
  abbrev pub outcome : ℕ → EndRef → ℕ → List Filter → Filtered
  outcome place dest delay rest =
      option_map_or Dropped (position_from (drops source sequence) place rest)
      (Kept (last_of dest (filter_map reroute_of rest)) (fold (λ sum f. sum + delay_of f) delay rest))
