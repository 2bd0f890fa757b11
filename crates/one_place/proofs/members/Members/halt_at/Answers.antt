use Rattle.machine_laws.specs.Machine.{halted_if}
use Rattle.one_place.proofs.Seats.{found, changed, halted_seq}
use Rattle.one_place.proofs.members.Members.halt_at.Goals as goal

pub halt-requires : goal.halt-requires
halt-requires c =
    (found c.args.self.now c.self.inside.begun c.self.inside.clocks.items c.self.inside.logs.feds c.args.at c.index_mut-clock.result.now c.log_mut-log.result.now
    c.self.invariant c.self.view_is c.requires c.index_mut-clock.ensures.value c.log_mut-log.ensures.value).seat

pub invariant_of-self : goal.invariant_of-self
invariant_of-self c =
    (changed (halted_if c.args.there c.args.fed) c.halt.new.clock c.halt.new.log (halted_seq c.args.there c.args.fed)
    (found c.args.self.now c.self.inside.begun c.self.inside.clocks.items c.self.inside.logs.feds c.args.at c.index_mut-clock.result.now c.log_mut-log.result.now
    c.self.invariant c.self.view_is c.requires c.index_mut-clock.ensures.value c.log_mut-log.ensures.value) c.halt.ensures).kept

pub returns : goal.returns
returns c =
    (changed (halted_if c.args.there c.args.fed) c.halt.new.clock c.halt.new.log (halted_seq c.args.there c.args.fed)
    (found c.args.self.now c.self.inside.begun c.self.inside.clocks.items c.self.inside.logs.feds c.args.at c.index_mut-clock.result.now c.log_mut-log.result.now
    c.self.invariant c.self.view_is c.requires c.index_mut-clock.ensures.value c.log_mut-log.ensures.value) c.halt.ensures).state
