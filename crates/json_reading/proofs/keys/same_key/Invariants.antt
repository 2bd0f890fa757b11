use Rattle.std.proofs.Common.{◌≡◌, drop}
use Rattle.json_reading.specs.Keys.{same_key_of}
use Rattle.json_reading.proofs.keys.same_key.Given as goal

abbrev pub invariant-loop-byte : goal.invariant-loop-byte
invariant-loop-byte l = same_key_of l.rest (drop l.byte-index l.spelled) ≡ same_key_of l.key l.spelled
