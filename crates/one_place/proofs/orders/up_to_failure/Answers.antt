use Rattle.std.proofs.Common.{◌≡◌, ◌∙◌, ap, subst, length}
use Rattle.std.specs.Prelude.{replicate}
use Rattle.machine_laws.specs.Moves.{Play}
use Rattle.one_place.specs.Machine.{Stage}
use Rattle.federation_plan.specs.Plan.{Federation}
use Rattle.federation_plan.specs.Wires.{wires_of}
use Rattle.one_place.specs.Reference.{plays_of, HasReferenceLogs}
use Rattle.one_place.specs.Run.{play_of, wires_at, begun_stage, Played}
use Rattle.one_place.specs.Scene.{Scene}
use Rattle.one_place.proofs.Starting.{made_are, made_follow}
use Rattle.one_place.specs.Orders.{HasLogsUpToFailure, IsUpTo}
use Rattle.one_place.proofs.Endings.{failure_logs, unfailed_reference}
use Rattle.one_place.proofs.orders.up_to_failure.Goals as goal

pub play_up_to_failure-requires-clause-actors : goal.play_up_to_failure-requires-clause-actors
play_up_to_failure-requires-clause-actors c =
    made_are c.scenario.inside.plan c.scenario.inside.scripts c.in_ok-machine.machine c.deref_mut.result.now _ c.scenario.invariant.each c.scenario.invariant.rules c.in_ok-machine.ensures
    (c.deref_mut.ensures.value ∙ c.in_ok-actors.ensures) c.federates.ensures.federates

pub returns : goal.returns
returns c =
    let p : Federation = c.scenario.inside.plan in
    let scripts = c.scenario.inside.scripts in
    let none = replicate (length p.federates) 0 in
    let machine : c.in_ok-machine.machine ≡ begun_stage p = c.in_ok-machine.ensures in
    let following =
    made_follow p scripts c.in_ok-machine.machine c.deref_mut.result.now _ c.scenario.invariant.each machine (c.deref_mut.ensures.value ∙ c.in_ok-actors.ensures) c.federates.ensures.federates in
    let out = c.in_ok-failed.ensures.logs (plays_of p scripts) none following in
    let failed = c.in_ok-failed.failed in
    let end : Play = play_of c.play_up_to_failure.new.machine out.0 in
    let from : Played (IsUpTo failed) (wires_of p) (plays_of p scripts) (play_of (begun_stage p) none) end =
    subst (λ (s : Stage). Played (IsUpTo failed) (wires_at s) (plays_of p scripts) (play_of s none) end) machine out.1 in
    let feds = c.into_parts-plan.result.1.feds in
    let logs = failure_logs p scripts failed c.play_up_to_failure.new.machine.state out.0 feds from c.into_parts-plan.ensures.logs in
    record {
      plan = c.into_parts-plan.ensures.plan ∙ c.in_ok-failed.ensures.plan ∙ ap (λ (s : Stage). s.plan) machine ∙ ap (λ (s : Scene). s.plan) c.scenario.view_is;
      logs = subst (λ (s : Scene). HasLogsUpToFailure s.plan s.scripts failed feds) c.scenario.view_is logs;
      reference = λ none_failed. subst (λ (s : Scene). HasReferenceLogs s.plan s.scripts feds) c.scenario.view_is (unfailed_reference p scripts failed feds logs none_failed);
    }
