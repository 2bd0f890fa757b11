use Rattle.std.proofs.Common.{◌≡◌, ◌++◌, take, drop}
use Rattle.std.specs.Prelude.{map}
use Rattle.one_place.specs.Members.{taken_back}
use Rattle.one_place.proofs.queues.take_back.Given as goal

abbrev pub invariant-loop-at : goal.invariant-loop-at
invariant-loop-at l = l.clocks ≡ map (taken_back l.source l.seq) (take l.at l.fn.clocks) ++ drop l.at l.fn.clocks
