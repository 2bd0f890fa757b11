use Rattle.std.proofs.Common.{◌≡◌, ◌-◌, length, slice_get}
use Rattle.one_place.specs.Run.{may_move}
use Rattle.one_place.proofs.Movers.{passing}
use Rattle.one_place.specs.Playing.{movers_at}
use Rattle.one_place.proofs.orders.mover_at.Given as goal

-- those before f are passed over
abbrev pub invariant-loop-f : goal.invariant-loop-f
invariant-loop-f l = slice_get (passing (may_move l.machine) l.f (length l.machine.state.members - l.f)) l.left ≡ slice_get (movers_at l.machine) l.place
