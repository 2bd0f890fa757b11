use Rattle.std.proofs.Common.{◌≡◌, ◌++◌, map}
use Rattle.std.specs.Vec.Iter.{into_iter_items}
use Rattle.runner_config.specs.Runner.{federates_of, entry_in}
use Rattle.runner_config.proofs.reading.federates.Given as goal

abbrev pub invariant-loop-listed : goal.invariant-loop-listed
invariant-loop-listed l =
    l.found ++ map (entry_in l.nodes.tree) (federates_of (into_iter_items l.listed-iterator)) ≡ map (entry_in l.nodes.tree) (federates_of l.fn.entries)
