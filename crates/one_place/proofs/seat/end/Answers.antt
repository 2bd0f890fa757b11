use Rattle.one_place.proofs.Events.{ended_stands}
use Rattle.one_place.proofs.Seating.{ended_seat}
use Rattle.one_place.proofs.seat.end.Goals as goal

pub refresh-requires : goal.refresh-requires
refresh-requires c = rw c.end.ensures (ended_stands c.args.clock.now.time c.args.cause c.requires.seat.clock.fed c.requires.live)

pub returns : goal.returns
returns c =
    ended_seat c.args.clock.now c.refresh.new.self c.args.log.now c.end.new.self c.args.cause c.requires.seat c.requires.live c.requires.otherwise c.end.ensures
    c.refresh.ensures.event c.refresh.ensures.dues
