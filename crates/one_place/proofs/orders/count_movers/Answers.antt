use Rattle.std.proofs.Common.{rules, length, arith}
use Rattle.one_place.specs.Run.{may_move}
use Rattle.one_place.specs.Playing.{movers_at}
use Rattle.one_place.proofs.Movers.{counted_first, counted_over, counted_all, passing_few}
use Rattle.one_place.proofs.orders.count_movers.Goals as goal
use Rattle.one_place.proofs.orders.count_movers.Goals.{then-may_move, else-may_move}

pub overflow_add-count : goal.overflow_add-count
overflow_add-count c =
    let s = c.args.machine.now in
    let few = passing_few (may_move s) 0 (length s.state.members) in
    let bound = c.requires in
    let counted = c.loop-f.invariant in
    omega (arith, few, bound, counted)

pub loop-f-preserved : goal.loop-f-preserved
loop-f-preserved c =
    let s = c.args.machine.now in
    let n = length s.state.members in
    elim c.if-may_move.branch [
      | then-may_move w ↦ search (rules, counted_first (may_move s) c.loop-f.f n c.loop-f.count (length (movers_at s)) (search rules) (search rules) c.loop-f.invariant)
      | else-may_move w ↦ search (rules, counted_over (may_move s) c.loop-f.f n c.loop-f.count (length (movers_at s)) (search rules) (search rules) c.loop-f.invariant)
    ]

pub returns : goal.returns
returns c =
    let s = c.args.machine.now in
    counted_all (may_move s) c.loop-f.f (length s.state.members) c.loop-f.count (length (movers_at s)) (search rules) (search rules) c.loop-f.invariant
