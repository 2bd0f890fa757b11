use Rattle.std.proofs.Common.{◌<◌, ap, arith, length, subst, sym, List}
use Rattle.hel_lists.specs.Members.{Each}
use Rattle.hel_values.specs.declared.EndRef.{EndRef}
use Rattle.one_place.proofs.Held.{each_at}
use Rattle.one_place.proofs.Lawful.{inputs_known}
use Rattle.one_place.proofs.seat.Clock.published.Goals as goal

pub valued-requires-clause-to : goal.valued-requires-clause-to
valued-requires-clause-to c =
    let count = length c.args.plan.now.federates in
    let all = inputs_known c.args.plan.now c.args.publication c.args.value.now c.federates-federates.ensures.plan c.requires.known in
    let each : Each (λ (e : EndRef). e.fed < count) c.targets-inputs.result.now = subst (λ (xs : List EndRef). Each (λ (e : EndRef). e.fed < count) xs) (sym c.targets-inputs.ensures) all in
    let less = each_at (λ (e : EndRef). e.fed < count) c.targets-inputs.result.now c.loop-input.input-index (record { fed = 0; index = 0 }) each c.loop-input-test.true in
    let many = ap length c.federates-federates.ensures.federates in
    omega (arith, less, many)
