use Rattle.std.proofs.Common.{◌≡◌, ◌++◌, ◌∷◌, [], ◌∙◌, not, ap, subst, sym}
use Rattle.std.specs.List.{filter}
use Rattle.helics_time.specs.Stamp.{At}
use Rattle.due_queue.specs.Item.{Parcel, is_due}
use Rattle.time_state.specs.Fed.{IsStep, cut_at}
use Rattle.time_state.specs.declared.Grant.{Grant}
use Rattle.one_place.proofs.Events.{grant_step}
use Rattle.one_place.proofs.Seating.{granted_seat}
use Rattle.one_place.proofs.seat.grant.Goals as goal

pub grant_at-requires-clause-step : goal.grant_at-requires-clause-step
grant_at-requires-clause-step c =
    let clock = c.args.clock.now in
    let seat = c.requires.seat in
    subst (λ (s : At). IsStep clock.time s) (sym seat.clock.event) (grant_step clock.time clock.queue seat.clock.fed seat.clock.dues c.requires.asks)

pub returns-clause-ok : goal.returns-clause-ok
returns-clause-ok c =
    let cut : c.cut_at-cut.result ≡ cut_at c.args.clock.now.time c.args.clock.now.event = c.cut_at-cut.ensures in
    granted_seat c.args.clock.now c.args.log.now c.grant_at.new.self c.push.new.self c.in_ok-items.items c.drop_due.new.queue c.requires.seat c.requires.asks
    c.grant_at.ensures.after (c.in_ok-items.ensures.copies ∙ ap (λ (s : At). filter (is_due s) c.args.clock.now.queue) cut)
    (c.drop_due.ensures ∙ ap (λ (s : At). filter (λ (i : Parcel). not (is_due s i)) c.args.clock.now.queue) cut)
    (c.in_ok-push.ensures.ok ∙ ap (λ (g : Grant). c.args.log.now.entries ++ (record { grant = g; items = c.in_ok-items.items }) ∷ []) c.next_grant_at.ensures)
