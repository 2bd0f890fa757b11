use Rattle.std.proofs.Common.{◌≡◌, length}
use Rattle.std.specs.Prelude.{map}
use Rattle.std.specs.Vec.Iter.{into_iter_items}
use Rattle.one_place.specs.Members.{AreClocks, AreMade, taken_back, put_all}
use Rattle.one_place.proofs.queues.put_each.Given as goal

abbrev pub invariant-loop-item : goal.invariant-loop-item
invariant-loop-item l =
    record {
      more : put_all (into_iter_items l.item-iterator) l.clocks ≡ put_all (into_iter_items l.initial.item-iterator) l.fn.clocks;
      clocks : AreClocks l.clocks;
      made : AreMade (length l.clocks) l.source l.seq (into_iter_items l.item-iterator);
      back : map (taken_back l.source l.seq) l.clocks ≡ map (taken_back l.source l.seq) l.fn.clocks;
    }
