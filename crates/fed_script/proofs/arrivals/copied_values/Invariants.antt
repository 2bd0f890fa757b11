use Rattle.std.proofs.Common.{◌≡◌, ◌++◌, drop}
use Rattle.fed_script.specs.View.{values_in}
use Rattle.fed_script.proofs.arrivals.copied_values.Given as goal

abbrev pub invariant-loop-item : goal.invariant-loop-item
invariant-loop-item l = l.values.items ++ values_in (drop l.item-index l.items) ≡ values_in l.items
