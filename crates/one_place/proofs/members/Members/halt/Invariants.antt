use Rattle.std.proofs.Common.{◌≡◌, ◌++◌, take, drop}
use Rattle.std.specs.Prelude.{slice_index_or}
use Rattle.machine_laws.specs.Machine.{halted_from}
use Rattle.one_place.proofs.members.Members.halt.Given as goal

abbrev pub invariant-loop-at : goal.invariant-loop-at
invariant-loop-at l = l.self ≡ record l.fn.self { members = halted_from (λ i. slice_index_or l.cores i 0) l.core l.fed 0 (take l.at l.fn.self.members) ++ drop l.at l.fn.self.members }
