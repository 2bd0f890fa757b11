use Rattle.std.proofs.Common.{◌≡◌, ◌∙◌, arith, ap}
use Rattle.due_queue.specs.Item.{Parcel}
use Rattle.one_place.proofs.Puts.{clock_in, tried_clocks}
use Rattle.one_place.proofs.queues.put_one.Goals as goal

pub put-requires : goal.put-requires
put-requires c =
    let at : c.from.result ≡ c.args.item.target = c.from.ensures ∙ ap (λ (i : Parcel). i.target) c.item.view_is in
    (clock_in c.args.clocks.now c.from.result c.index-clocks-from.result c.requires.clocks (omega (arith, at))).fed

pub returns-clause-clocks : goal.returns-clause-clocks
returns-clause-clocks c =
    let at : c.from.result ≡ c.args.item.target = c.from.ensures ∙ ap (λ (i : Parcel). i.target) c.item.view_is in
    tried_clocks c.put.result c.args.clocks.now c.from.result c.put.new.self c.index-clocks-from.result _ c.requires.clocks (omega (arith, at)) c.put.ensures.ok
    c.put.ensures.dues c.put.ensures.err
