use Rattle.std.proofs.Common.{◌≡◌, ◌<◌, arith, length}
use Rattle.one_place.specs.Run.{IsActor}
use Rattle.one_place.proofs.Held.{each_at}
use Rattle.one_place.proofs.run.turn.Goals as goal

pub call-requires-clause-rules : goal.call-requires-clause-rules
call-requires-clause-rules c =
    let at : c.from.result ≡ c.args.f = c.from.ensures in
    let within : c.args.f < length c.args.actors.now = c.requires.within in
    (each_at IsActor c.args.actors.now c.from.result c.index-actors-from.result c.requires.actors (omega (arith, at, within))).rules
