use Rattle.one_place.specs.Run.{play_of}
use Rattle.machine_laws.specs.Moves.{IsReference}
use Rattle.one_place.proofs.Turns.{leads_there, leads_through, no_move}
use Rattle.one_place.proofs.run.play_out.Goals as goal

pub loop-hints-init : goal.loop-hints-init
loop-hints-init c = leads_there IsReference c.args.machine.now c.args.actors.now c.requires.actors

pub loop-hints-preserved : goal.loop-hints-preserved
loop-hints-preserved c =
    leads_through IsReference IsReference IsReference c.args.machine.now c.loop-hints.machine c.play_on.new.machine c.args.actors.now c.loop-hints.actors c.play_on.new.actors c.loop-hints.invariant c.in_ok-play_on.ensures.on

pub returns : goal.returns
returns c = λ plays calls follows.
    let end = c.play_on.new.machine in
    let on = leads_through IsReference IsReference IsReference c.args.machine.now c.loop-hints.machine end c.args.actors.now c.loop-hints.actors c.play_on.new.actors c.loop-hints.invariant c.in_ok-play_on.ensures.on in
    let now = on.more plays calls follows in
    (now.0, now.2 (play_of end now.0) (no_move end plays now.0 (c.in_ok-play_on.ensures.still c.if-branch.false)))
