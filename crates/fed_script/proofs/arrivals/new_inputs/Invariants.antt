use Rattle.std.proofs.Common.{◌≡◌}
use Rattle.std.specs.Prelude.{replicate}
use Rattle.value_updates.specs.Input.{opening}
use Rattle.fed_script.proofs.arrivals.new_inputs.Given as goal

abbrev pub invariant-loop : goal.invariant-loop
invariant-loop l = l.inputs ≡ replicate l.counter opening
