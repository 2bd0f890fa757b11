use Rattle.std.proofs.Common.{◌≡◌, ◌∙◌, ap, sym}
use Rattle.std.specs.Prelude.{slice_index_or}
use Rattle.std.proofs.lemmas.List.{get_or_default}
use Rattle.one_place.specs.declared.seat.Clock.{Clock}
use Rattle.one_place.specs.Members.{blank_clock}
use Rattle.one_place.proofs.queues.put_items.Goals as goal

pub put_each-put-requires-clause-made : goal.put_each-put-requires-clause-made
put_each-put-requires-clause-made c = λ x among.
    let m = c.requires.made x among in
    let at : c.from.result ≡ c.args.source = c.from.ensures in
    let same : slice_index_or c.args.clocks.now c.args.source blank_clock ≡ slice_index_or c.args.clocks.now c.from.result c.index-clocks-from.result =
    get_or_default c.args.clocks.now c.args.source blank_clock c.index-clocks-from.result c.requires.within ∙ ap (λ k. slice_index_or c.args.clocks.now k c.index-clocks-from.result) (sym at) in
    (m.0, m.1, m.2 ∙ ap (λ (k : Clock). k.seq) same)
