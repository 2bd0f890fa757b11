use Rattle.std.proofs.Common.{◌≡◌, ◌++◌, []}
use Rattle.std.specs.Vec.Iter.{into_iter_items}
use Rattle.scenario_reading.specs.Fitting.{names_refusal}
use Rattle.scenario_reading.proofs.fitting.registry_of.Given as goal

abbrev pub invariant-loop-federate : goal.invariant-loop-federate
invariant-loop-federate l =
    record {
      rest : names_refusal l.registry (into_iter_items l.federate-iterator) ≡ names_refusal [] l.fn.federates;
      all : l.registry ++ into_iter_items l.federate-iterator ≡ l.fn.federates;
    }
