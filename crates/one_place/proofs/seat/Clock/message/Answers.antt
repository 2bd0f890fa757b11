use Rattle.std.proofs.Common.{◌≡◌, ◌∙◌, ◌+◌, ◌∷◌, [], ℕ, ap, sym}
use Rattle.helics_time.specs.Stamp.{At}
use Rattle.due_queue.specs.declared.item.Content.{Content}
use Rattle.due_queue.specs.declared.item.Content.TheVariants.{Message}
use Rattle.federation_plan.specs.Wires.{delay_between}
use Rattle.machine_laws.specs.Plan.{due_of}
use Rattle.one_place.proofs.seat.Clock.message.Goals as goal

pub returns : goal.returns
returns c =
    let feds = c.args.federates.now in
    let clock = c.args.self.now in
    let from = c.args.from in
    let end = c.args.end in
    let content : ℕ → Content = λ time.
    Message (record { source = from; original_source = from; destination = end; original_destination = c.args.to; time = time; payload = c.args.payload }) in
    let due : c.due_at-due.result ≡ due_of clock.time from.fed (record { target = end.fed; delay = delay_between feds from.fed end.fed + c.args.later; content = content }) =
    c.due_at-due.ensures.value content
    ∙ ap (λ n. due_of clock.time from.fed (record { target = end.fed; delay = n + c.args.later; content = content })) c.delay_between.ensures.value in
    let time : c.due.inside.time ≡ c.due_at-due.result.time = ap (λ (s : At). s.time) c.due.view_is in
    let at = time ∙ ap (λ (s : At). s.time) due in
    λ k. (record { source = from.fed; seq = clock.seq; target = end.fed; due = sym due k; content = content (sym at k) }) ∷ []
