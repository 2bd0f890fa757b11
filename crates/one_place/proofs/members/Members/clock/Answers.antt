use Rattle.one_place.proofs.Seats.{clock_got}
use Rattle.one_place.proofs.members.Members.clock.Goals as goal

pub returns-clause-known : goal.returns-clause-known
returns-clause-known c =
    clock_got (λ x. x.now) c.get.result c.args.self.now c.self.inside.begun c.self.inside.clocks.items c.deref.result.now c.self.inside.logs.feds c.args.f c.from.result
    c.self.invariant c.self.view_is c.deref.ensures.value c.from.ensures c.get.ensures.lookup.0 c.get.ensures.lookup.1
