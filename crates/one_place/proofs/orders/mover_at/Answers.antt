use Rattle.std.proofs.Common.{rules, length, slice_get}
use Rattle.one_place.specs.Run.{may_move}
use Rattle.one_place.specs.Playing.{movers_at}
use Rattle.one_place.proofs.Movers.{passed_first, passed_over, found_here, found_none}
use Rattle.one_place.proofs.orders.mover_at.Goals as goal
use Rattle.one_place.proofs.orders.mover_at.Goals.{then-may_move+else-left-eq0, else-may_move}

pub returns-then-left-eq0 : goal.returns-then-left-eq0
returns-then-left-eq0 c =
    let s = c.args.machine.now in
    found_here (may_move s) c.loop-f.f (length s.state.members) c.loop-f.left (slice_get (movers_at s) c.args.place) (search rules) (search rules) (search rules) c.loop-f.invariant

pub loop-f-preserved : goal.loop-f-preserved
loop-f-preserved c =
    let s = c.args.machine.now in
    let n = length s.state.members in
    elim c.if-may_move.branch [
      | then-may_move+else-left-eq0 w ↦ search (rules, passed_first (may_move s) c.loop-f.f n c.loop-f.left (slice_get (movers_at s) c.args.place) (search rules) (search rules) (search rules) c.loop-f.invariant)
      | else-may_move w ↦ search (rules, passed_over (may_move s) c.loop-f.f n c.loop-f.left (slice_get (movers_at s) c.args.place) (search rules) (search rules) c.loop-f.invariant)
    ]

pub returns : goal.returns
returns c =
    let s = c.args.machine.now in
    found_none (may_move s) c.loop-f.f (length s.state.members) c.loop-f.left (slice_get (movers_at s) c.args.place) (search rules) (search rules) c.loop-f.invariant
