use Rattle.std.proofs.Common.{◌≡◌, ◌++◌, length, take}
use Rattle.std.specs.Vec.Iter.{into_iter_items}
use Rattle.interface_names.specs.GlobalName.{first_duplicate}
use Rattle.interface_names.proofs.registry.enter_each.Given as goal

abbrev pub invariant-loop-name : goal.invariant-loop-name
invariant-loop-name l = record {
  can : (goal.iterator-loop-name).can_next l.name-iterator;
  ends : (goal.iterator-loop-name).is_finite l.name-iterator;
  rest : first_duplicate l.table.keys (into_iter_items l.name-iterator) ≡ first_duplicate l.fn.table.keys l.fn.names.items;
  all : l.table.keys ++ into_iter_items l.name-iterator ≡ l.fn.table.keys ++ l.fn.names.items;
  kept : take (length l.fn.table.keys) l.table.keys ≡ l.fn.table.keys;
}
