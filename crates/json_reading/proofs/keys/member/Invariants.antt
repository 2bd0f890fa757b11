use Rattle.std.proofs.Common.{◌≡◌}
use Rattle.json_reading.specs.Keys.{member_at, pairs_of}
use Rattle.json_reading.proofs.keys.member.Given as goal

abbrev pub invariant-loop-spelled : goal.invariant-loop-spelled
invariant-loop-spelled l = member_at l.key (pairs_of l.spelled-iterator) ≡ member_at l.key (pairs_of l.object.entries)
