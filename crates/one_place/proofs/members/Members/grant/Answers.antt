use Rattle.one_place.proofs.Seats.{found, granted_kept, granted_state}
use Rattle.one_place.proofs.members.Members.grant.Goals as goal

pub grant-requires-clause-seat : goal.grant-requires-clause-seat
grant-requires-clause-seat c =
    (found c.args.self.now c.self.inside.begun c.self.inside.clocks.items c.self.inside.logs.feds c.args.at c.index_mut-clock.result.now c.log_mut-log.result.now
    c.self.invariant c.self.view_is c.requires.within c.index_mut-clock.ensures.value c.log_mut-log.ensures.value).seat

pub invariant_of-self : goal.invariant_of-self
invariant_of-self c =
    granted_kept c.grant.result c.grant.new.clock c.grant.new.log
    (found c.args.self.now c.self.inside.begun c.self.inside.clocks.items c.self.inside.logs.feds c.args.at c.index_mut-clock.result.now c.log_mut-log.result.now
    c.self.invariant c.self.view_is c.requires.within c.index_mut-clock.ensures.value c.log_mut-log.ensures.value) c.grant.ensures.ok
    c.grant.ensures.same_clock c.grant.ensures.same_log

pub returns-clause-ok : goal.returns-clause-ok
returns-clause-ok c =
    granted_state c.grant.result c.grant.new.clock c.grant.new.log
    (found c.args.self.now c.self.inside.begun c.self.inside.clocks.items c.self.inside.logs.feds c.args.at c.index_mut-clock.result.now c.log_mut-log.result.now
    c.self.invariant c.self.view_is c.requires.within c.index_mut-clock.ensures.value c.log_mut-log.ensures.value) c.grant.ensures.ok
