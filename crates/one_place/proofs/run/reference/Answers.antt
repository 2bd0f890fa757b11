use Rattle.std.proofs.Common.{◌≡◌, ◌∙◌, subst, length}
use Rattle.std.specs.Prelude.{replicate}
use Rattle.machine_laws.specs.Moves.{Play, IsReference}
use Rattle.one_place.specs.Machine.{Stage}
use Rattle.federation_plan.specs.Plan.{Federation}
use Rattle.federation_plan.specs.Wires.{wires_of}
use Rattle.one_place.specs.Reference.{plays_of, HasReferenceLogs}
use Rattle.one_place.specs.Run.{play_of, wires_at, begun_stage, Played}
use Rattle.one_place.specs.Scene.{Scene}
use Rattle.one_place.proofs.Starting.{made_are, made_follow, reference_logs}
use Rattle.one_place.proofs.run.reference.Goals as goal

pub play_out-requires-clause-actors : goal.play_out-requires-clause-actors
play_out-requires-clause-actors c =
    made_are c.scenario.inside.plan c.scenario.inside.scripts c.in_ok-machine.machine c.deref_mut.result.now _ c.scenario.invariant.each c.scenario.invariant.rules c.in_ok-machine.ensures
    (c.deref_mut.ensures.value ∙ c.in_ok-actors.ensures) c.federates.ensures.federates

pub returns : goal.returns
returns c =
    let p : Federation = c.scenario.inside.plan in
    let scripts = c.scenario.inside.scripts in
    let none = replicate (length p.federates) 0 in
    let machine : c.in_ok-machine.machine ≡ begun_stage p = c.in_ok-machine.ensures in
    let following =
    made_follow p scripts c.in_ok-machine.machine c.deref_mut.result.now _ c.scenario.invariant.each machine (c.deref_mut.ensures.value ∙ c.in_ok-actors.ensures) c.federates.ensures.federates in
    let out = c.in_ok-play_out.ensures (plays_of p scripts) none following in
    let end : Play = play_of c.play_out.new.machine out.0 in
    let from : Played IsReference (wires_of p) (plays_of p scripts) (play_of (begun_stage p) none) end =
    subst (λ (s : Stage). Played IsReference (wires_at s) (plays_of p scripts) (play_of s none) end) machine out.1 in
    subst (λ (s : Scene). HasReferenceLogs s.plan s.scripts c.into_logs.result.feds) c.scenario.view_is
    (reference_logs p scripts c.play_out.new.machine.state out.0 c.into_logs.result.feds from c.into_logs.ensures)
