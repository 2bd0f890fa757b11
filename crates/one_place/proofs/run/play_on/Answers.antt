use Rattle.std.proofs.Common.{◌≡◌, ◌∙◌, ap, sym, arith}
use Rattle.one_place.specs.Machine.{Stage}
use Rattle.machine_laws.specs.Moves.{IsReference}
use Rattle.one_place.proofs.Turns.{turned, leads_there, goes_further}
use Rattle.one_place.proofs.run.play_on.Goals as goal

pub loop-f-init : goal.loop-f-init
loop-f-init c = record { on = leads_there IsReference c.args.machine.now c.args.actors.now c.requires.actors; no_more = omega arith }

pub returns-then-not-branch-clause-on : goal.returns-then-not-branch-clause-on
returns-then-not-branch-clause-on c =
    let plan : c.turn.new.machine.plan ≡ c.loop-f.machine.plan = ap (λ (s : Stage). s.plan) c.in_ok-turn.ensures.machine in
    goes_further c.args.machine.now c.loop-f.machine c.turn.new.machine c.in-Some.f c.args.actors.now c.loop-f.actors c.turn.new.actors c.loop-f.invariant.on c.in-Some.ensures.found plan
    (turned c.loop-f.machine c.turn.new.machine c.in-Some.f c.loop-f.actors c.turn.new.actors c.loop-f.invariant.on.ready c.in-Some.ensures.found.moves
    c.in_ok-turn.ensures.machine c.in_ok-turn.ensures.actors)

pub returns-then-not-branch-clause-less : goal.returns-then-not-branch-clause-less
returns-then-not-branch-clause-less c = λ is.
    let turn = turned c.loop-f.machine c.turn.new.machine c.in-Some.f c.loop-f.actors c.turn.new.actors c.loop-f.invariant.on.ready c.in-Some.ensures.found.moves
    c.in_ok-turn.ensures.machine c.in_ok-turn.ensures.actors in
    let falls = turn.falls (sym c.in_ok-turn.ensures.answered ∙ c.if-not-branch.true) in
    let no_more = c.loop-f.invariant.no_more in
    omega (arith, falls, no_more)

pub loop-f-smaller : goal.loop-f-smaller
loop-f-smaller c =
    ((turned c.loop-f.machine c.turn.new.machine c.in-Some.f c.loop-f.actors c.turn.new.actors c.loop-f.invariant.on.ready c.in-Some.ensures.found.moves
    c.in_ok-turn.ensures.machine c.in_ok-turn.ensures.actors).stays (sym c.in_ok-turn.ensures.answered ∙ c.if-not-branch.false)).1

pub loop-f-preserved : goal.loop-f-preserved
loop-f-preserved c =
    let plan : c.turn.new.machine.plan ≡ c.loop-f.machine.plan = ap (λ (s : Stage). s.plan) c.in_ok-turn.ensures.machine in
    let turn = turned c.loop-f.machine c.turn.new.machine c.in-Some.f c.loop-f.actors c.turn.new.actors c.loop-f.invariant.on.ready c.in-Some.ensures.found.moves
    c.in_ok-turn.ensures.machine c.in_ok-turn.ensures.actors in
    let stays = (turn.stays (sym c.in_ok-turn.ensures.answered ∙ c.if-not-branch.false)).0 in
    let no_more = c.loop-f.invariant.no_more in
    record {
      on = goes_further c.args.machine.now c.loop-f.machine c.turn.new.machine c.in-Some.f c.args.actors.now c.loop-f.actors c.turn.new.actors c.loop-f.invariant.on c.in-Some.ensures.found plan turn;
      no_more = omega (arith, stays, no_more);
    }
