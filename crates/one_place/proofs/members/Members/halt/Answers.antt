use Rattle.std.proofs.Common.{arith, refl}
use Rattle.one_place.proofs.Halting.{halted_next, halted_count, halted_all}
use Rattle.one_place.proofs.members.Members.halt.Goals as goal

pub loop-at-init : goal.loop-at-init
loop-at-init c = refl

pub halt_at-requires : goal.halt_at-requires
halt_at-requires c =
    let same = halted_count c.args.cores.now c.args.core c.args.fed c.args.self.now c.loop-at.self c.loop-at.at c.loop-at.invariant in
    omega (arith, same, c.requires)

pub loop-at-preserved : goal.loop-at-preserved
loop-at-preserved c =
    halted_next c.args.cores.now c.args.core c.args.fed c.args.self.now c.loop-at.self c.halt_at.new.self c.loop-at.at (omega (arith, c.requires, c.loop-at-test.true))
    c.loop-at.invariant c.halt_at.ensures

pub returns : goal.returns
returns c =
    halted_all c.args.cores.now c.args.core c.args.fed c.args.self.now c.loop-at.self c.loop-at.at (omega (arith, c.requires)) c.loop-at.invariant
