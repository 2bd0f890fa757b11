use Rattle.std.proofs.Common.{◌≡◌, ◌+◌, ◌∙◌, true, ap, arith, sym, subst}
use Rattle.std.specs.Prelude.{nat_lt}
use Rattle.std.proofs.lemmas.Bool.Decides.{nat_tests}
use Rattle.helics_time.specs.Stamp.{At, IsDue, next_of}
use Rattle.one_place.proofs.Events.{sends_low, sends_small, sent_due, own_due}
use Rattle.one_place.proofs.seat.Clock.due_at.Goals as goal

pub overflow_add-result : goal.overflow_add-result
overflow_add-result c =
    let t : c.result.inside.time ≡ c.args.self.now.time.last.time = ap (λ (s : At). s.time) (c.result.view_is ∙ c.own.ensures) in
    let low = sends_low c.args.self.now.time c.args.self.now.seq c.requires.fed c.requires.limits in
    omega (arith, t, low, c.requires.soon)

pub invariant_of-result : goal.invariant_of-result
invariant_of-result c =
    let t : c.result.inside.time ≡ c.args.self.now.time.last.time = ap (λ (s : At). s.time) (c.result.view_is ∙ c.own.ensures) in
    let low = sends_low c.args.self.now.time c.args.self.now.seq c.requires.fed c.requires.limits in
    omega (arith, t, low, c.requires.soon)

pub returns-then-delay-gt0-clause-value : goal.returns-then-delay-gt0-clause-value
returns-then-delay-gt0-clause-value c = λ content.
    let t : c.result.inside.time ≡ c.args.self.now.time.last.time = ap (λ (s : At). s.time) (c.result.view_is ∙ c.own.ensures) in
    let delayed : nat_lt 0 c.args.delay ≡ true = grind (arith, nat_tests) in
    rw delayed (ap (λ n. record { time = n + c.args.delay; micro = 0 }) t)

pub returns-then-delay-gt0-clause-due : goal.returns-then-delay-gt0-clause-due
returns-then-delay-gt0-clause-due c =
    let t : c.result.inside.time ≡ c.args.self.now.time.last.time = ap (λ (s : At). s.time) (c.result.view_is ∙ c.own.ensures) in
    let low = sends_low c.args.self.now.time c.args.self.now.seq c.requires.fed c.requires.limits in
    record { time = omega (arith, t, low, c.requires.soon); micro = omega arith }

pub returns-then-target-fed-clause-due : goal.returns-then-target-fed-clause-due
returns-then-target-fed-clause-due c =
    subst IsDue (sym (c.next.ensures.value ∙ ap next_of c.last_cut.ensures)) (own_due c.args.self.now.time c.requires.fed
    (sends_low c.args.self.now.time c.args.self.now.seq c.requires.fed c.requires.limits) (sends_small c.args.self.now.time c.args.self.now.seq c.requires.limits))

pub returns-else-target-fed-clause-due : goal.returns-else-target-fed-clause-due
returns-else-target-fed-clause-due c =
    subst IsDue (sym (c.next-else-target-fed.ensures.value ∙ ap next_of c.own-else-target-fed.ensures)) (sent_due c.args.self.now.time c.requires.fed
    (sends_low c.args.self.now.time c.args.self.now.seq c.requires.fed c.requires.limits) (sends_small c.args.self.now.time c.args.self.now.seq c.requires.limits))
