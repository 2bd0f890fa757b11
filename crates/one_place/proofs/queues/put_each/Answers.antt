use Rattle.std.proofs.Common.{◌≡◌, ◌∷◌, inl, inr, refl, ap, subst, sym, ◌∙◌, arith, List}
use Rattle.std.specs.Vec.Iter.{into_iter_items}
use Rattle.hel_lists.specs.Members.{IsIn}
use Rattle.due_queue.specs.Item.{Parcel}
use Rattle.one_place.specs.Members.{AreMade, put_all, put_in}
use Rattle.one_place.proofs.Puts.{put_taken, put_length}
use Rattle.std.specs.Prelude.{map, length}
use Rattle.one_place.specs.Members.{taken_back}
use Rattle.one_place.proofs.queues.put_each.Goals as goal

pub loop-item-init : goal.loop-item-init
loop-item-init c =
    let items : into_iter_items c.into_iter-item-iterator.result ≡ c.args.items.items = c.into_iter-item-iterator.ensures.into_iter_gives.0 in
    record {
      more = refl;
      clocks = c.requires.clocks;
      made = subst (λ (xs : List Parcel). AreMade (length c.args.clocks.now) c.args.source c.args.seq xs) (sym items) c.requires.made;
      back = refl;
    }

pub put_one-requires-clause-within : goal.put_one-requires-clause-within
put_one-requires-clause-within c =
    let steps : into_iter_items c.loop-item.item-iterator ≡ c.in-Some.item ∷ into_iter_items c.next.new.self = c.in-Some.ensures.steps.0 in
    (c.loop-item.invariant.made c.in-Some.item (subst (λ (xs : List Parcel). IsIn c.in-Some.item xs) (sym steps) (inl refl))).0

pub loop-item-preserved : goal.loop-item-preserved
loop-item-preserved c =
    let steps : into_iter_items c.loop-item.item-iterator ≡ c.in-Some.item ∷ into_iter_items c.next.new.self = c.in-Some.ensures.steps.0 in
    let put : c.put_one.new.clocks ≡ put_in c.in-Some.item c.loop-item.clocks = c.in_ok-put_one.ensures.ok in
    let made = subst (λ (xs : List Parcel). AreMade (length c.loop-item.clocks) c.args.source c.args.seq xs) steps c.loop-item.invariant.made in
    let own = made c.in-Some.item (inl refl) in
    let same : length c.put_one.new.clocks ≡ length c.loop-item.clocks = ap length put ∙ put_length c.in-Some.item c.loop-item.clocks in
    record {
      more = ap (put_all (into_iter_items c.next.new.self)) put ∙ sym (ap (λ (xs : List Parcel). put_all xs c.loop-item.clocks) steps) ∙ c.loop-item.invariant.more;
      clocks = c.put_one.ensures.clocks;
      made = λ x among. let m = made x (inr among) in (omega (arith, same, m.0), m.1, m.2);
      back =
          ap (map (taken_back c.args.source c.args.seq)) put ∙ put_taken c.args.source c.args.seq c.in-Some.item c.loop-item.clocks own.1 own.2 ∙ c.loop-item.invariant.back;
    }
