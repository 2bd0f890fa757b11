use Rattle.std.proofs.Common.{◌<◌, ◌≤◌, arith}
use Rattle.tree_facts.specs.Tree.{parent}
use Rattle.tree_facts.proofs.Climb.{starts, climbs_on, found_child, leads_up}
use Rattle.tree_facts.proofs.hops.next_hop.Goals as goal

pub loop-at-init : goal.loop-at-init
loop-at-init c = record { low = omega arith; climbed = starts _ _ _ c.requires.tree c.if-from-to.false }

pub loop-at-preserved : goal.loop-at-preserved
loop-at-preserved c =
    let some : 0 < c.loop-at.at = omega arith in
    let falls : parent c.args.parents.now c.loop-at.at < c.loop-at.at = c.requires.tree.falls c.loop-at.at some in
    let low : c.loop-at.at ≤ c.args.to = c.loop-at.invariant.low in
    record { low = omega arith; climbed = climbs_on _ _ _ _ c.requires.tree some c.loop-at.invariant.climbed c.if-above-from.false }

pub returns-then-above-from-clause-value : goal.returns-then-above-from-clause-value
returns-then-above-from-clause-value c =
    (found_child _ _ _ _ c.requires.tree (omega arith) c.if-from-to.false c.loop-at.invariant.climbed c.if-above-from.true).0

pub returns-then-above-from-clause-leads : goal.returns-then-above-from-clause-leads
returns-then-above-from-clause-leads c =
    λ differs. (found_child _ _ _ _ c.requires.tree (omega arith) differs c.loop-at.invariant.climbed c.if-above-from.true).1

pub returns-clause-value : goal.returns-clause-value
returns-clause-value c = (leads_up _ _ _ _ c.requires.tree c.loop-at-test.false c.if-from-to.false c.loop-at.invariant.climbed).0

pub returns-clause-leads : goal.returns-clause-leads
returns-clause-leads c = λ differs. (leads_up _ _ _ _ c.requires.tree c.loop-at-test.false differs c.loop-at.invariant.climbed).1
