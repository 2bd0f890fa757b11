use Rattle.std.proofs.Common.{◌≡◌, ◌∙◌, ℕ, List, drop, ap, sym, subst, arith, Some}
use Rattle.std.proofs.lemmas.Bool.{false≢true}
use Rattle.one_place.specs.Machine.{Stage}
use Rattle.one_place.specs.Orders.{pick, first_number, IsOrdered}
use Rattle.one_place.specs.Playing.{movers_at}
use Rattle.one_place.specs.Run.{Leads}
use Rattle.one_place.proofs.Turns.{turned, moving_known, leads_there, leads_through}
use Rattle.one_place.proofs.Ordering.{picked_moves, none_picked, picked_leads}
use Rattle.one_place.proofs.orders.order_on.Goals as goal

pub loop-f-init : goal.loop-f-init
loop-f-init c = record { on = leads_there (IsOrdered c.args.order.now) c.args.machine.now c.args.actors.now c.requires.actors; no_more = omega arith }

pub turn-requires-clause-moves : goal.turn-requires-clause-moves
turn-requires-clause-moves c = picked_moves c.loop-f.machine c.first_number.result c.in-Some.f (sym c.picked.ensures ∙ c.in-Some.is)

pub turn-requires-clause-within : goal.turn-requires-clause-within
turn-requires-clause-within c =
    let may = picked_moves c.loop-f.machine c.first_number.result c.in-Some.f (sym c.picked.ensures ∙ c.in-Some.is) in
    let known = moving_known c.loop-f.machine c.in-Some.f may in
    let each = c.loop-f.invariant.on.ready.each in
    omega (arith, known, each)

pub returns-then-not-answered : goal.returns-then-not-answered
returns-then-not-answered c =
    let picks : pick (first_number c.loop-f.left.now) (movers_at c.loop-f.machine) ≡ Some c.in-Some.f =
    ap (λ (k : ℕ). pick k (movers_at c.loop-f.machine)) (sym c.first_number.ensures) ∙ sym c.picked.ensures ∙ c.in-Some.is in
    let plan : c.turn.new.machine.plan ≡ c.loop-f.machine.plan = ap (λ (s : Stage). s.plan) c.in_ok-answered.ensures.machine in
    let turn = turned c.loop-f.machine c.turn.new.machine c.in-Some.f c.loop-f.actors c.turn.new.actors c.loop-f.invariant.on.ready (picked_moves c.loop-f.machine (first_number c.loop-f.left.now) c.in-Some.f picks)
    c.in_ok-answered.ensures.machine c.in_ok-answered.ensures.actors in
    let there = picked_leads c.loop-f.machine c.turn.new.machine c.in-Some.f c.loop-f.left.now c.loop-f.actors c.turn.new.actors c.loop-f.invariant.on.ready picks plan turn in
    let through = leads_through (IsOrdered c.args.order.now) (IsOrdered c.loop-f.left.now) (IsOrdered (drop 1 c.loop-f.left.now)) c.args.machine.now c.loop-f.machine c.turn.new.machine c.args.actors.now c.loop-f.actors c.turn.new.actors c.loop-f.invariant.on there in
    let leads = subst (λ (left : List ℕ). Leads (IsOrdered c.args.order.now) (IsOrdered left) c.args.machine.now c.args.actors.now c.turn.new.machine c.turn.new.actors) (sym c.behind_first-left.ensures) through in
    let falls = turn.falls (sym c.in_ok-answered.ensures.answered ∙ c.if-not-answered.true) in
    let no_more = c.loop-f.invariant.no_more in
    record { on = leads; less = λ is. omega (arith, falls, no_more); still = λ is. absurd (false≢true (sym is)) }

pub loop-f-smaller : goal.loop-f-smaller
loop-f-smaller c =
    let picks : pick (first_number c.loop-f.left.now) (movers_at c.loop-f.machine) ≡ Some c.in-Some.f =
    ap (λ (k : ℕ). pick k (movers_at c.loop-f.machine)) (sym c.first_number.ensures) ∙ sym c.picked.ensures ∙ c.in-Some.is in
    let plan : c.turn.new.machine.plan ≡ c.loop-f.machine.plan = ap (λ (s : Stage). s.plan) c.in_ok-answered.ensures.machine in
    let turn = turned c.loop-f.machine c.turn.new.machine c.in-Some.f c.loop-f.actors c.turn.new.actors c.loop-f.invariant.on.ready (picked_moves c.loop-f.machine (first_number c.loop-f.left.now) c.in-Some.f picks)
    c.in_ok-answered.ensures.machine c.in_ok-answered.ensures.actors in
    (turn.stays (sym c.in_ok-answered.ensures.answered ∙ c.if-not-answered.false)).1

pub loop-f-preserved : goal.loop-f-preserved
loop-f-preserved c =
    let picks : pick (first_number c.loop-f.left.now) (movers_at c.loop-f.machine) ≡ Some c.in-Some.f =
    ap (λ (k : ℕ). pick k (movers_at c.loop-f.machine)) (sym c.first_number.ensures) ∙ sym c.picked.ensures ∙ c.in-Some.is in
    let plan : c.turn.new.machine.plan ≡ c.loop-f.machine.plan = ap (λ (s : Stage). s.plan) c.in_ok-answered.ensures.machine in
    let turn = turned c.loop-f.machine c.turn.new.machine c.in-Some.f c.loop-f.actors c.turn.new.actors c.loop-f.invariant.on.ready (picked_moves c.loop-f.machine (first_number c.loop-f.left.now) c.in-Some.f picks)
    c.in_ok-answered.ensures.machine c.in_ok-answered.ensures.actors in
    let there = picked_leads c.loop-f.machine c.turn.new.machine c.in-Some.f c.loop-f.left.now c.loop-f.actors c.turn.new.actors c.loop-f.invariant.on.ready picks plan turn in
    let through = leads_through (IsOrdered c.args.order.now) (IsOrdered c.loop-f.left.now) (IsOrdered (drop 1 c.loop-f.left.now)) c.args.machine.now c.loop-f.machine c.turn.new.machine c.args.actors.now c.loop-f.actors c.turn.new.actors c.loop-f.invariant.on there in
    let leads = subst (λ (left : List ℕ). Leads (IsOrdered c.args.order.now) (IsOrdered left) c.args.machine.now c.args.actors.now c.turn.new.machine c.turn.new.actors) (sym c.behind_first-left.ensures) through in
    let stays = (turn.stays (sym c.in_ok-answered.ensures.answered ∙ c.if-not-answered.false)).0 in
    let no_more = c.loop-f.invariant.no_more in
    record { on = leads; no_more = omega (arith, stays, no_more) }

pub returns : goal.returns
returns c =
    let none = none_picked c.loop-f.machine c.first_number.result (sym c.picked.ensures ∙ c.in_default.is) in
    record { on = c.loop-f.invariant.on; less = λ is. absurd (false≢true is); still = λ is. none }
