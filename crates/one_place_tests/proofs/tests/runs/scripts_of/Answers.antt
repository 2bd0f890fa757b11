use Rattle.std.proofs.Common.{◌≡◌, sym, subst, List, [], ◌∷◌, ◌++◌}
use Rattle.hel_lists.specs.Members.{Each}
use Rattle.fed_script.specs.Script.{Course, IsCourse}
use Rattle.hel_lists.proofs.Members.{each_pushed}
use Rattle.one_place_tests.proofs.tests.runs.scripts_of.Goals as goal

pub loop-speech-preserved : goal.loop-speech-preserved
loop-speech-preserved c =
    let before : List Course = c.loop-speech.scripts in
    let script : Course = c.in_ok-script_of.field-0 in
    let now : c.push.new.self ≡ before ++ script ∷ [] = c.in_ok-push.ensures.ok in
    subst (λ (scripts : List Course). Each IsCourse scripts) (sym now) (each_pushed IsCourse before script c.loop-speech.invariant c.in_ok-script_of.ensures)
