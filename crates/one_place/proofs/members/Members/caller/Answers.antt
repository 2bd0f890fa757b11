use Rattle.std.proofs.Common.{subst, sym}
use Rattle.time_state.specs.Fed.{IsFed}
use Rattle.one_place.specs.declared.seat.Clock.{Clock}
use Rattle.one_place.proofs.Puts.{clock_in}
use Rattle.one_place.proofs.Seats.{clock_here, clocks_of, clocks_count}
use Rattle.one_place.proofs.members.Members.caller.Goals as goal

pub returns-clause-clock : goal.returns-clause-clock
returns-clause-clock c =
    let within = clocks_count c.args.self.now c.self.inside.begun c.self.inside.clocks.items c.self.inside.logs.feds c.args.at c.self.invariant c.self.view_is c.requires in
    clock_here c.args.self.now c.self.inside.begun c.self.inside.clocks.items c.self.inside.logs.feds c.args.at c.index.result.now c.self.invariant c.self.view_is within c.index.ensures

pub returns-clause-fed : goal.returns-clause-fed
returns-clause-fed c =
    let within = clocks_count c.args.self.now c.self.inside.begun c.self.inside.clocks.items c.self.inside.logs.feds c.args.at c.self.invariant c.self.view_is c.requires in
    subst (λ (x : Clock). IsFed x.time) (sym c.index.ensures)
    (clock_in c.self.inside.clocks.items c.args.at c.index.result.now (clocks_of c.self.inside.clocks.items c.self.inside.logs.feds c.self.invariant.seats) within).fed
