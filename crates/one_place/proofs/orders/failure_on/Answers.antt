use Rattle.std.proofs.Common.{rules, ◌≡◌, ◌∙◌, ℕ, Option, None, ap, sym, arith, true, false}
use Rattle.machine_laws.specs.Machine.{member_at}
use Rattle.machine_laws.specs.Moves.{is_failed}
use Rattle.one_place.specs.Machine.{Stage}
use Rattle.one_place.proofs.Turns.{turned, leads_there, leads_through}
use Rattle.one_place.specs.Orders.{IsUpTo}
use Rattle.one_place.proofs.Ordering.{living_leads, failing_ends}
use Rattle.one_place.proofs.orders.failure_on.Goals as goal

pub loop-f-init : goal.loop-f-init
loop-f-init c = record {
  on = λ failed. leads_there (IsUpTo failed) c.args.machine.now c.args.actors.now c.requires.actors;
  ready = c.requires.actors;
  no_more = omega arith;
}

pub returns-then-is_failed : goal.returns-then-is_failed
returns-then-is_failed c =
    let turn = turned c.loop-f.machine c.turn.new.machine c.in-Some.f c.loop-f.actors c.turn.new.actors c.loop-f.invariant.ready c.in-Some.ensures.found.moves
    c.in_ok-answered.ensures.machine c.in_ok-answered.ensures.actors in
    let fails : is_failed (member_at c.turn.new.machine.state c.in-Some.f).time.phase ≡ true = search rules in
    record {
      plan = ap (λ (s : Stage). s.plan) c.in_ok-answered.ensures.machine ∙ (c.loop-f.invariant.on None).plan;
      come = failing_ends c.args.machine.now c.loop-f.machine c.turn.new.machine c.in-Some.f c.args.actors.now c.loop-f.actors c.turn.new.actors c.loop-f.invariant.on c.in-Some.ensures.found fails turn;
    }

pub returns-then-not-answered : goal.returns-then-not-answered
returns-then-not-answered c =
    let plan : c.turn.new.machine.plan ≡ c.loop-f.machine.plan = ap (λ (s : Stage). s.plan) c.in_ok-answered.ensures.machine in
    let turn = turned c.loop-f.machine c.turn.new.machine c.in-Some.f c.loop-f.actors c.turn.new.actors c.loop-f.invariant.ready c.in-Some.ensures.found.moves
    c.in_ok-answered.ensures.machine c.in_ok-answered.ensures.actors in
    let lives : is_failed (member_at c.turn.new.machine.state c.in-Some.f).time.phase ≡ false = search rules in
    let there = living_leads c.loop-f.machine c.turn.new.machine c.in-Some.f c.loop-f.actors c.turn.new.actors c.in-Some.ensures.found plan lives turn in
    let leads = λ (failed : Option ℕ). leads_through (IsUpTo failed) (IsUpTo failed) (IsUpTo failed) c.args.machine.now c.loop-f.machine c.turn.new.machine c.args.actors.now c.loop-f.actors c.turn.new.actors (c.loop-f.invariant.on failed) (there failed) in
    let falls = turn.falls (sym c.in_ok-answered.ensures.answered ∙ c.if-not-answered.true) in
    let no_more = c.loop-f.invariant.no_more in
    record { plan = (leads None).plan; come = (leads, omega (arith, falls, no_more)) }

pub loop-f-smaller : goal.loop-f-smaller
loop-f-smaller c =
    let turn = turned c.loop-f.machine c.turn.new.machine c.in-Some.f c.loop-f.actors c.turn.new.actors c.loop-f.invariant.ready c.in-Some.ensures.found.moves
    c.in_ok-answered.ensures.machine c.in_ok-answered.ensures.actors in
    (turn.stays (sym c.in_ok-answered.ensures.answered ∙ c.if-not-answered.false)).1

pub loop-f-preserved : goal.loop-f-preserved
loop-f-preserved c =
    let plan : c.turn.new.machine.plan ≡ c.loop-f.machine.plan = ap (λ (s : Stage). s.plan) c.in_ok-answered.ensures.machine in
    let turn = turned c.loop-f.machine c.turn.new.machine c.in-Some.f c.loop-f.actors c.turn.new.actors c.loop-f.invariant.ready c.in-Some.ensures.found.moves
    c.in_ok-answered.ensures.machine c.in_ok-answered.ensures.actors in
    let lives : is_failed (member_at c.turn.new.machine.state c.in-Some.f).time.phase ≡ false = search rules in
    let there = living_leads c.loop-f.machine c.turn.new.machine c.in-Some.f c.loop-f.actors c.turn.new.actors c.in-Some.ensures.found plan lives turn in
    let leads = λ (failed : Option ℕ). leads_through (IsUpTo failed) (IsUpTo failed) (IsUpTo failed) c.args.machine.now c.loop-f.machine c.turn.new.machine c.args.actors.now c.loop-f.actors c.turn.new.actors (c.loop-f.invariant.on failed) (there failed) in
    let stays = (turn.stays (sym c.in_ok-answered.ensures.answered ∙ c.if-not-answered.false)).0 in
    let no_more = c.loop-f.invariant.no_more in
    record { on = leads; ready = turn.ready; no_more = omega (arith, stays, no_more) }

pub returns : goal.returns
returns c = record { plan = (c.loop-f.invariant.on None).plan; come = (c.loop-f.invariant.on, c.in_default.ensures.none) }
