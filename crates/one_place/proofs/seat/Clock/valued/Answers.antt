use Rattle.std.proofs.Common.{◌≡◌, ◌∙◌, ℕ, ap}
use Rattle.due_queue.specs.declared.item.Content.{Content}
use Rattle.due_queue.specs.declared.item.Content.TheVariants.{Value as ValueContent}
use Rattle.federation_plan.specs.Wires.{leg_to}
use Rattle.machine_laws.specs.Plan.{due_of}
use Rattle.one_place.proofs.seat.Clock.valued.Goals as goal

pub returns : goal.returns
returns c =
    let feds = c.args.federates.now in
    let clock = c.args.self.now in
    let from = c.args.publication in
    let input = c.args.input in
    let content : ℕ → Content = λ time. ValueContent input.index from c.args.value.now in
    let due : c.due_at-due.result ≡ due_of clock.time from.fed (leg_to feds from c.args.value.now input) =
    c.due_at-due.ensures.value content
    ∙ ap (λ n. due_of clock.time from.fed (record { target = input.fed; delay = n; content = content })) c.delay_between-delay.ensures.value in
    λ k. record { source = from.fed; seq = clock.seq; target = input.fed; due = due k; content = ValueContent input.index from (c.in_ok-copy.ensures k) }
