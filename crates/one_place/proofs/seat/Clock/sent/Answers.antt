use Rattle.std.proofs.Common.{◌≡◌, ◌∙◌, ◌++◌, ◌∷◌, List, [], Option, Some, ap, sym}
use Rattle.std.specs.Prelude.{map}
use Rattle.std.specs.Option.{option_to_list}
use Rattle.due_queue.specs.Item.{Parcel}
use Rattle.federation_plan.specs.Interfaces.{endpoint_at}
use Rattle.interface_names.specs.declared.records.FederateRecord.{FederateRecord}
use Rattle.federation_plan.specs.Wires.{destined, message_leg}
use Rattle.message_filters.specs.declared.chain.Filtered.TheVariants.{Kept, Dropped}
use Rattle.machine_laws.specs.Plan.{Leg, item_of}
use Rattle.one_place.proofs.Lawful.{sent_leg}
use Rattle.one_place.proofs.seat.Clock.sent.Goals as goal

pub returns-in_ok-push-in-Kept : goal.returns-in_ok-push-in-Kept
returns-in_ok-push-in-Kept c =
    let feds = c.args.plan.now.federates in
    let from = c.args.from in
    let clock = c.args.self.now in
    let means : destined feds (endpoint_at feds from).item c.args.name.now ≡ Some c.in-Some.to =
    ap (destined feds (endpoint_at feds from).item) (sym c.as_str.ensures) ∙ sym c.destined.ensures.value ∙ c.in-Some.is in
    let leg = sent_leg feds from c.in-Some.to clock.seq c.args.name.now c.args.payload (Kept c.in-Kept.dest c.in-Kept.delay) c.requires.endpoint c.requires.may means
    (sym c.filtered.ensures.value ∙ c.in-Kept.is) in
    let made : map (item_of clock.time from.fed clock.seq) (option_to_list (message_leg feds from c.in-Some.to c.args.payload (Kept c.in-Kept.dest c.in-Kept.delay))) ≡ c.message.result ∷ [] =
    ap (λ (fs : List FederateRecord). map (item_of clock.time from.fed clock.seq) (option_to_list (message_leg fs from c.in-Some.to c.args.payload (Kept c.in-Kept.dest c.in-Kept.delay))))
    (sym c.federates.ensures.federates) ∙ c.message.ensures in
    c.in_ok-push-in-Kept.ensures.items ∙ ap (λ (xs : List Parcel). xs ++ c.message.result ∷ []) c.new-items.ensures.items ∙ sym made
    ∙ sym (ap (λ (o : Option Leg). map (item_of clock.time from.fed clock.seq) (option_to_list o)) leg)

pub returns-in-Dropped : goal.returns-in-Dropped
returns-in-Dropped c =
    let feds = c.args.plan.now.federates in
    let from = c.args.from in
    let clock = c.args.self.now in
    let means : destined feds (endpoint_at feds from).item c.args.name.now ≡ Some c.in-Some.to =
    ap (destined feds (endpoint_at feds from).item) (sym c.as_str.ensures) ∙ sym c.destined.ensures.value ∙ c.in-Some.is in
    let leg = sent_leg feds from c.in-Some.to clock.seq c.args.name.now c.args.payload (Dropped c.in-Dropped.place) c.requires.endpoint c.requires.may means
    (sym c.filtered.ensures.value ∙ c.in-Dropped.is) in
    c.new-items.ensures.items ∙ sym (ap (λ (o : Option Leg). map (item_of clock.time from.fed clock.seq) (option_to_list o)) leg)
