use Rattle.std.proofs.Common.{◌≡◌, ◌+◌, ◌-◌, length}
use Rattle.one_place.specs.Run.{may_move}
use Rattle.one_place.proofs.Movers.{passing}
use Rattle.one_place.specs.Playing.{movers_at}
use Rattle.one_place.proofs.orders.count_movers.Given as goal

-- those before f are counted
abbrev pub invariant-loop-f : goal.invariant-loop-f
invariant-loop-f l = l.count + length (passing (may_move l.machine) l.f (length l.machine.state.members - l.f)) ≡ length (movers_at l.machine)
