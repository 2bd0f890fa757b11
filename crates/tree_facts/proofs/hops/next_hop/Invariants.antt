use Rattle.std.proofs.Common.{◌≤◌}
use Rattle.tree_facts.proofs.Climb.{IsClimbed}
use Rattle.tree_facts.proofs.hops.next_hop.Given as goal

abbrev pub invariant-loop-at : goal.invariant-loop-at
invariant-loop-at l = record {
  low : l.at ≤ l.to;
  climbed : IsClimbed l.parents l.from l.to l.at;
}

abbrev pub decreases-loop-at : goal.decreases-loop-at
decreases-loop-at l = l.at
