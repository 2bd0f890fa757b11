use Rattle.std.proofs.Common.{refl}
use Rattle.machine_laws.specs.Machine.{Member, failed_member}
use Rattle.one_place.proofs.Seats.{found, changed}
use Rattle.one_place.proofs.members.Members.fail.Goals as goal

pub fail-requires-clause-seat : goal.fail-requires-clause-seat
fail-requires-clause-seat c =
    (found c.args.self.now c.self.inside.begun c.self.inside.clocks.items c.self.inside.logs.feds c.args.at c.index_mut-clock.result.now c.log_mut-log.result.now
    c.self.invariant c.self.view_is c.requires.within c.index_mut-clock.ensures.value c.log_mut-log.ensures.value).seat

pub invariant_of-self : goal.invariant_of-self
invariant_of-self c =
    (changed (λ (m : Member). failed_member m c.args.text) c.fail.new.clock c.fail.new.log (λ m. refl)
    (found c.args.self.now c.self.inside.begun c.self.inside.clocks.items c.self.inside.logs.feds c.args.at c.index_mut-clock.result.now c.log_mut-log.result.now
    c.self.invariant c.self.view_is c.requires.within c.index_mut-clock.ensures.value c.log_mut-log.ensures.value) c.fail.ensures).kept

pub returns : goal.returns
returns c =
    (changed (λ (m : Member). failed_member m c.args.text) c.fail.new.clock c.fail.new.log (λ m. refl)
    (found c.args.self.now c.self.inside.begun c.self.inside.clocks.items c.self.inside.logs.feds c.args.at c.index_mut-clock.result.now c.log_mut-log.result.now
    c.self.invariant c.self.view_is c.requires.within c.index_mut-clock.ensures.value c.log_mut-log.ensures.value) c.fail.ensures).state
