use Rattle.std.proofs.Common.{◌≡◌, drop, option_map}
use Rattle.std.specs.Option.{option_or}
use Rattle.serde_json.specs.View.{view, items_view}
use Rattle.fed_config.specs.Filters.{last_named}
use Rattle.fed_config.proofs.filters.last_named.Given as goal

abbrev pub invariant-loop-place : goal.invariant-loop-place
invariant-loop-place l =
    option_or (last_named l.name l.place (items_view (drop l.place l.list))) (option_map (λ p. (p.0, view p.1.now)) l.last)
    ≡ last_named l.name 0 (items_view l.list)
