use Rattle.std.proofs.Common.{◌≡◌, length}
use Rattle.fed_script.specs.Round.{left_of}
use Rattle.fed_script.specs.Script.{given_from}
use Rattle.fed_script.proofs.script.pass_idle.Given as goal

abbrev pub invariant-loop-rounds : goal.invariant-loop-rounds
invariant-loop-rounds l = given_from (left_of l.rounds) l.view ≡ given_from (left_of l.initial.rounds) l.view

abbrev pub decreases-loop-rounds : goal.decreases-loop-rounds
decreases-loop-rounds l = length (left_of l.rounds)
