use Rattle.std.proofs.Common.{◌≡◌, drop}
use Rattle.std.specs.Prelude.{find}
use Rattle.fed_script.specs.Rounds.{unrolled}
use Rattle.fed_script.specs.Script.{gives}
use Rattle.fed_script.proofs.rounds.+among.Given as goal

abbrev pub invariant-first_among-loop-part : goal.invariant-first_among-loop-part
invariant-first_among-loop-part l = find (gives l.view) (unrolled (drop l.part-index l.parts)) ≡ find (gives l.view) (unrolled l.parts)
