use Rattle.std.proofs.Common.{zero, []}
use Rattle.one_place.specs.Run.{names_at, going}
use Rattle.one_place.proofs.run.call.Goals as goal

pub or_failure-requires-clause-step : goal.or_failure-requires-clause-step
or_failure-requires-clause-step c =
    let names = names_at c.args.machine.now in
    (going names c.phase-phase.result c.args.actor.now [] zero, c.in_ok-step.ensures.step names)
