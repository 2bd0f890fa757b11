use Rattle.machine_laws.specs.Machine.{begun_member}
use Rattle.one_place.proofs.Seats.{found, changed, begun_seq}
use Rattle.one_place.proofs.members.Members.begin_at.Goals as goal

pub begin-requires : goal.begin-requires
begin-requires c =
    (found c.args.self.now c.self.inside.begun c.self.inside.clocks.items c.self.inside.logs.feds c.args.at c.index_mut-clock.result.now c.log_mut-log.result.now
    c.self.invariant c.self.view_is c.requires c.index_mut-clock.ensures.value c.log_mut-log.ensures.value).seat

pub invariant_of-self : goal.invariant_of-self
invariant_of-self c =
    (changed begun_member c.begin.new.clock c.begin.new.log begun_seq
    (found c.args.self.now c.self.inside.begun c.self.inside.clocks.items c.self.inside.logs.feds c.args.at c.index_mut-clock.result.now c.log_mut-log.result.now
    c.self.invariant c.self.view_is c.requires c.index_mut-clock.ensures.value c.log_mut-log.ensures.value) c.begin.ensures).kept

pub returns : goal.returns
returns c =
    (changed begun_member c.begin.new.clock c.begin.new.log begun_seq
    (found c.args.self.now c.self.inside.begun c.self.inside.clocks.items c.self.inside.logs.feds c.args.at c.index_mut-clock.result.now c.log_mut-log.result.now
    c.self.invariant c.self.view_is c.requires c.index_mut-clock.ensures.value c.log_mut-log.ensures.value) c.begin.ensures).state
