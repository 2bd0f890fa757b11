use Rattle.std.proofs.Common.{◌≡◌, length}
use Rattle.hel_outside.proofs.Gained.{GainsUpTo}
use Rattle.hel_outside.proofs.sink.write_all.Given as goal

-- a first part was gained, with no fault, and the rest follows it
abbrev pub invariant-loop-rest : goal.invariant-loop-rest
invariant-loop-rest g l =
    let written = g.S.Sink.written in
    record {
      gained : GainsUpTo (written l.fn.sink) (written l.sink) l.rest l.bytes;
      quiet : g.S.Sink.faults l.sink ≡ g.S.Sink.faults l.fn.sink;
    }

abbrev pub decreases-loop-rest : goal.decreases-loop-rest
decreases-loop-rest g l = length l.rest
