use Rattle.std.proofs.Common.{◌≡◌, ◌+◌, ◌++◌, length, drop}
use Rattle.std.specs.Vec.Iter.{into_iter_items}
use Rattle.one_place.specs.Run.{first_actors}
use Rattle.one_place.proofs.actor.actors_of.Given as goal

abbrev pub invariant-loop-script : goal.invariant-loop-script
invariant-loop-script l =
    record {
      count : length l.actors.items + length (into_iter_items l.script-iterator) ≡ length l.federates;
      more : l.actors.items ++ first_actors (drop (length l.actors.items) l.federates) (into_iter_items l.script-iterator)
          ≡ first_actors l.federates (into_iter_items l.initial.script-iterator);
    }
