use Rattle.hel_lists.specs.Members.{Each}
use Rattle.fed_script.specs.Script.{IsCourse}
use Rattle.one_place_tests.proofs.tests.runs.scripts_of.Given as goal

abbrev pub invariant-loop-speech : goal.invariant-loop-speech
invariant-loop-speech l = Each IsCourse l.scripts
