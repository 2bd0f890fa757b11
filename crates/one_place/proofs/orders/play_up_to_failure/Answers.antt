use Rattle.std.proofs.Common.{◌∙◌, ℕ, Option, None, subst}
use Rattle.one_place.specs.declared.orders.Going.{Going}
use Rattle.one_place.specs.declared.orders.Going.TheVariants.{On, Still, Failed}
use Rattle.one_place.specs.Playing.{HasCome}
use Rattle.one_place.specs.Orders.{IsUpTo}
use Rattle.one_place.proofs.Turns.{leads_through}
use Rattle.one_place.proofs.Ordering.{still_ends, failure_through}
use Rattle.one_place.proofs.orders.play_up_to_failure.Goals as goal

pub loop-hints-preserved : goal.loop-hints-preserved
loop-hints-preserved c =
    let come : HasCome c.loop-hints.machine c.loop-hints.actors c.failure_on.new.machine c.failure_on.new.actors On =
    subst (λ (g : Going). HasCome c.loop-hints.machine c.loop-hints.actors c.failure_on.new.machine c.failure_on.new.actors g) c.in-On.is c.in_ok-failure_on.ensures.come in
    record {
      on = λ failed. leads_through (IsUpTo failed) (IsUpTo failed) (IsUpTo failed) c.args.machine.now c.loop-hints.machine c.failure_on.new.machine c.args.actors.now c.loop-hints.actors c.failure_on.new.actors (c.loop-hints.invariant.on failed) (come.0 failed);
      ready = (come.0 None).ready;
    }

pub returns-in-Still : goal.returns-in-Still
returns-in-Still c =
    let come : HasCome c.loop-hints.machine c.loop-hints.actors c.failure_on.new.machine c.failure_on.new.actors Still =
    subst (λ (g : Going). HasCome c.loop-hints.machine c.loop-hints.actors c.failure_on.new.machine c.failure_on.new.actors g) c.in-Still.is c.in_ok-failure_on.ensures.come in
    let leads = λ (failed : Option ℕ). leads_through (IsUpTo failed) (IsUpTo failed) (IsUpTo failed) c.args.machine.now c.loop-hints.machine c.failure_on.new.machine c.args.actors.now c.loop-hints.actors c.failure_on.new.actors (c.loop-hints.invariant.on failed) (come.0 failed) in
    record { plan = (leads None).plan; logs = still_ends c.args.machine.now c.failure_on.new.machine c.args.actors.now c.failure_on.new.actors leads come.1 }

pub returns-in-Failed : goal.returns-in-Failed
returns-in-Failed c =
    let come : HasCome c.loop-hints.machine c.loop-hints.actors c.failure_on.new.machine c.failure_on.new.actors (Failed c.in-Failed.f) =
    subst (λ (g : Going). HasCome c.loop-hints.machine c.loop-hints.actors c.failure_on.new.machine c.failure_on.new.actors g) c.in-Failed.is c.in_ok-failure_on.ensures.come in
    record {
      plan = c.in_ok-failure_on.ensures.plan ∙ (c.loop-hints.invariant.on None).plan;
      logs = failure_through c.args.machine.now c.loop-hints.machine c.failure_on.new.machine c.in-Failed.f c.args.actors.now c.loop-hints.actors c.loop-hints.invariant.on come;
    }
