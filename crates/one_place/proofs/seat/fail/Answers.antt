use Rattle.time_state.specs.declared.Cause.TheVariants.{Failed}
use Rattle.one_place.proofs.Events.{ended_stands}
use Rattle.one_place.proofs.Seating.{failed_seat}
use Rattle.one_place.proofs.seat.fail.Goals as goal

pub refresh-requires : goal.refresh-requires
refresh-requires c = rw c.end.ensures (ended_stands c.args.clock.now.time Failed c.requires.seat.clock.fed c.requires.live)

pub returns : goal.returns
returns c =
    failed_seat c.args.clock.now c.refresh.new.self c.args.log.now c.end.new.self c.args.text c.requires.seat c.requires.live c.end.ensures c.refresh.ensures.event
    c.refresh.ensures.dues
