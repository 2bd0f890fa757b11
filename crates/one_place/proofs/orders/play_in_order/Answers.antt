use Rattle.one_place.specs.Orders.{IsOrdered}
use Rattle.one_place.proofs.Turns.{leads_through}
use Rattle.one_place.proofs.Ordering.{order_ends}
use Rattle.one_place.proofs.orders.play_in_order.Goals as goal

pub loop-goes_on-preserved : goal.loop-goes_on-preserved
loop-goes_on-preserved c =
    let next = c.in_ok-goes_on.ensures in
    record {
      on = leads_through (IsOrdered c.args.order.now) (IsOrdered c.loop-goes_on.left.now) (IsOrdered c.in_ok-goes_on.field-0-1.now) c.args.machine.now c.loop-goes_on.machine c.order_on.new.machine c.args.actors.now c.loop-goes_on.actors
          c.order_on.new.actors c.loop-goes_on.invariant.on next.on;
      still = next.still;
    }

pub returns : goal.returns
returns c = order_ends c.args.machine.now c.loop-goes_on.machine c.args.order.now c.loop-goes_on.left.now c.args.actors.now c.loop-goes_on.actors c.loop-goes_on.invariant.on (c.loop-goes_on.invariant.still c.loop-goes_on-test.false)
