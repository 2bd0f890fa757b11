use Rattle.std.proofs.Common.{◌≤◌}
use Rattle.one_place.specs.Orders.{IsOrdered}
use Rattle.one_place.specs.Run.{Leads}
use Rattle.one_place.specs.Work.{work, letters}
use Rattle.one_place.proofs.orders.order_on.Given as goal

-- the run goes on from the start, and there is no more work
abbrev pub invariant-loop-f : goal.invariant-loop-f
invariant-loop-f l =
    record {
      on : Leads (IsOrdered l.fn.order) (IsOrdered l.left) l.fn.machine l.fn.actors l.machine l.actors;
      no_more : work l.machine.state.members l.actors ≤ work l.fn.machine.state.members l.fn.actors;
    }

abbrev pub decreases-loop-f : goal.decreases-loop-f
decreases-loop-f l = letters l.actors
