-- The tests of equality tell exactly whether two messages, contents or items are one.
use Rattle.std.proofs.Common.{◌≡◌, ap}
use Rattle.std.specs.Bool.{Decides}
use Rattle.std.proofs.lemmas.Bool.{false≢true}
use Rattle.std.proofs.lemmas.Bool.Decides.{Decides-eqb, Decides-and}
use Rattle.std.proofs.lemmas.Slice.Eq.{bytes_eq-Decides}
use Rattle.hel_values.specs.Sameness.{same_value-Decides, same_end-Decides}
use Rattle.due_queue.specs.declared.item.Message.{Message as MessageRecord}
use Rattle.due_queue.specs.declared.item.Content.{Content}
use Rattle.due_queue.specs.declared.item.Content.TheVariants.{Value, Message}
use Rattle.due_queue.specs.Item.{Parcel, same_message, same_content, same_parcel}

-- of two messages
pub same_message-Decides : (a b : MessageRecord) → Decides (same_message a b) (a ≡ b)
same_message-Decides a b =
    let ends = Decides-and _ _ (Decides-and _ _ (Decides-and _ _ (same_end-Decides a.source b.source) (same_end-Decides a.original_source b.original_source)) (same_end-Decides a.destination b.destination)) (same_end-Decides a.original_destination b.original_destination) in
    let all = Decides-and _ _ (Decides-and _ _ ends (Decides-eqb a.time b.time)) (bytes_eq-Decides a.payload b.payload) in (
      (λ t. let p = all.0 t in λ k. record {
        source = p.0.0.0.0.0 k;
        original_source = p.0.0.0.0.1 k;
        destination = p.0.0.0.1 k;
        original_destination = p.0.0.1 k;
        time = p.0.1 k;
        payload = p.1 k;
      }),
      (λ e. all.1 (((((ap (λ (m : MessageRecord). m.source) e, ap (λ (m : MessageRecord). m.original_source) e), ap (λ (m : MessageRecord). m.destination) e), ap (λ (m : MessageRecord). m.original_destination) e), ap (λ (m : MessageRecord). m.time) e), ap (λ (m : MessageRecord). m.payload) e)),
    )

-- of two contents
pub same_content-Decides : (a b : Content) → Decides (same_content a b) (a ≡ b)
same_content-Decides (Value input publication value) (Value input' publication' value') =
    let all = Decides-and _ _ (Decides-and _ _ (Decides-eqb input input') (same_end-Decides publication publication')) (same_value-Decides value value') in
    ((λ t. let p = all.0 t in λ k. Value (p.0.0 k) (p.0.1 k) (p.1 k)), (λ e. all.1 ((cc, cc), (cc))))
same_content-Decides (Message a) (Message b) = let d = same_message-Decides a b in ((λ t. ap Message (d.0 t)), (λ e. d.1 (cc)))
same_content-Decides a b = ((λ t. absurd (false≢true t)), (λ e. cc))

-- of two items
pub same_parcel-Decides : (i j : Parcel) → Decides (same_parcel i j) (i ≡ j)
same_parcel-Decides i j =
    let numbers = Decides-and _ _ (Decides-and _ _ (Decides-eqb i.source j.source) (Decides-eqb i.seq j.seq)) (Decides-eqb i.target j.target) in
    let all = Decides-and _ _ (Decides-and _ _ (Decides-and _ _ numbers (Decides-eqb i.due.time j.due.time)) (Decides-eqb i.due.micro j.due.micro)) (same_content-Decides i.content j.content) in (
      (λ t. let p = all.0 t in λ k. record {
        source = p.0.0.0.0.0 k;
        seq = p.0.0.0.0.1 k;
        target = p.0.0.0.1 k;
        due = record { time = p.0.0.1 k; micro = p.0.1 k };
        content = p.1 k;
      }),
      (λ e. all.1 (((((ap (λ (m : Parcel). m.source) e, ap (λ (m : Parcel). m.seq) e), ap (λ (m : Parcel). m.target) e), ap (λ (m : Parcel). m.due.time) e), ap (λ (m : Parcel). m.due.micro) e), ap (λ (m : Parcel). m.content) e)),
    )
