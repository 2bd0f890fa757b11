use Rattle.std.proofs.Common.{◌≡◌, ◌++◌, take, drop}
use Rattle.std.specs.Prelude.{map}
use Rattle.machine_laws.specs.Machine.{begun_member}
use Rattle.one_place.proofs.members.Members.begin.Given as goal

abbrev pub invariant-loop-at : goal.invariant-loop-at
invariant-loop-at l = l.self ≡ record l.fn.self { members = map begun_member (take l.at l.fn.self.members) ++ drop l.at l.fn.self.members }
