use Rattle.std.proofs.Common.{◌≡◌, ◌++◌, drop}
use Rattle.fed_script.specs.View.{letters_in}
use Rattle.fed_script.proofs.arrivals.written_letters.Given as goal

abbrev pub invariant-loop-item : goal.invariant-loop-item
invariant-loop-item g l = l.letters.items ++ letters_in (g.N.EndpointNames.name_of l.names) (drop l.item-index l.items) ≡ letters_in (g.N.EndpointNames.name_of l.names) l.items
