use Rattle.std.proofs.Common.{arith, refl, ap, true, ◌∙◌}
use Rattle.machine_laws.specs.Machine.{State, begun_member}
use Rattle.one_place.proofs.Seats.{members_next, members_count, members_all}
use Rattle.one_place.proofs.members.Members.begin.Goals as goal

pub loop-at-init : goal.loop-at-init
loop-at-init c = refl

pub begin_at-requires : goal.begin_at-requires
begin_at-requires c = let same = members_count begun_member c.args.self.now c.loop-at.self c.loop-at.at c.loop-at.invariant in omega (arith, same)

pub loop-at-preserved : goal.loop-at-preserved
loop-at-preserved c = members_next begun_member c.args.self.now c.loop-at.self c.begin_at.new.self c.loop-at.at (omega arith) c.loop-at.invariant c.begin_at.ensures

pub returns : goal.returns
returns c =
    let all = members_all begun_member c.args.self.now c.loop-at.self c.loop-at.at (omega arith) c.loop-at.invariant in
    ap (λ (s : State). record s { begun = true }) (c.self-2.view_is ∙ all)
