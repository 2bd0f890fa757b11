use Rattle.std.proofs.Common.{◌≡◌}
use Rattle.std.specs.Vec.Iter.{into_iter_items}
use Rattle.fed_script.specs.View.{applied}
use Rattle.fed_script.proofs.arrivals.apply_all.Given as goal

abbrev pub invariant-loop-input : goal.invariant-loop-input
invariant-loop-input l =
    applied l.inputs (into_iter_items l.input-iterator) ≡ applied l.initial.inputs (into_iter_items l.initial.input-iterator)
