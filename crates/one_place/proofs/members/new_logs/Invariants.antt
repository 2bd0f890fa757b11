use Rattle.std.proofs.Common.{◌≡◌}
use Rattle.std.specs.Prelude.{replicate}
use Rattle.one_place.specs.Members.{blank_log}
use Rattle.one_place.proofs.members.new_logs.Given as goal

abbrev pub invariant-loop : goal.invariant-loop
invariant-loop l = l.logs ≡ replicate l.counter blank_log
