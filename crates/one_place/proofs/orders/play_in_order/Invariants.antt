use Rattle.std.proofs.Common.{ℕ, ◌+◌, ◌≡◌, false}
use Rattle.std.specs.Prelude.{if◌then◌else◌}
use Rattle.one_place.specs.Run.{may_move, Leads}
use Rattle.one_place.specs.Orders.{IsOrdered}
use Rattle.one_place.specs.Work.{work}
use Rattle.one_place.proofs.orders.play_in_order.Given as goal

abbrev pub invariant-loop-goes_on : goal.invariant-loop-goes_on
invariant-loop-goes_on l =
    record {
      on : Leads (IsOrdered l.fn.order) (IsOrdered l.left) l.fn.machine l.fn.actors l.machine l.actors;
      still : l.goes_on ≡ false → (f : ℕ) → may_move l.machine f ≡ false;
    }

abbrev pub decreases-loop-goes_on : goal.decreases-loop-goes_on
decreases-loop-goes_on l = if l.goes_on then work l.machine.state.members l.actors + 1 else 0
