use Rattle.std.proofs.Common.{◌≡◌, ◌≤◌, ℕ, List, length, drop, map}
use Rattle.std.specs.HashMap.{get_by_text}
use Rattle.fed_config.proofs.OneBefore.{place_from}
use Rattle.fed_config.proofs.places.Places.of.Given as goal

abbrev pub invariant-loop-place : goal.invariant-loop-place
invariant-loop-place g l =
    (l.place ≤ length l.interfaces)
    × ((q : List ℕ) → get_by_text l.places q ≡ place_from l.place (map g.T.Named.name_of (drop l.place l.interfaces)) q)

abbrev pub decreases-loop-place : goal.decreases-loop-place
decreases-loop-place g l = l.place
