use Rattle.std.proofs.Common.{◌≡◌, drop}
use Rattle.json_reading.specs.Keys.{is_doubled, texts_of, pairs_of}
use Rattle.json_reading.proofs.keys.has_doubled.Given as goal

abbrev pub invariant-loop-key : goal.invariant-loop-key
invariant-loop-key l = is_doubled (texts_of (drop l.key-index l.table)) (pairs_of l.object.entries) ≡ is_doubled (texts_of l.table) (pairs_of l.object.entries)
