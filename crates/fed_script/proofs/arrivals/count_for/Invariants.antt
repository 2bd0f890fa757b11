use Rattle.std.proofs.Common.{◌≡◌, ◌≤◌, take}
use Rattle.fed_script.specs.Room.{count_for}
use Rattle.fed_script.proofs.arrivals.count_for.Given as goal

abbrev pub invariant-loop-letter : goal.invariant-loop-letter
invariant-loop-letter l = (l.count ≡ count_for l.endpoint (take l.letter-index l.letters)) × (l.count ≤ l.letter-index)
