use Rattle.std.proofs.Common.{rules}
use Rattle.one_place.specs.Run.{may_move}
use Rattle.one_place.proofs.Movers.{none_more}
use Rattle.one_place.proofs.run.next_to_move.Goals as goal

pub loop-f-preserved : goal.loop-f-preserved
loop-f-preserved c = none_more (may_move c.args.machine.now) c.loop-f.f c.loop-f.invariant (search rules)
