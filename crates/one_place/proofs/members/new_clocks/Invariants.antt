use Rattle.std.proofs.Common.{◌≡◌, take}
use Rattle.one_place.specs.Members.{new_clocks}
use Rattle.one_place.proofs.members.new_clocks.Given as goal

abbrev pub invariant-loop-federate : goal.invariant-loop-federate
invariant-loop-federate l = l.clocks.items ≡ new_clocks (take l.federate-index l.federates)
