use Rattle.std.proofs.Common.{◌≡◌, ◌<◌, ◌^◌, ap, arith, length}
use Rattle.std.specs.Prelude.{slice_index_or}
use Rattle.one_place.specs.Members.{clock_at}
use Rattle.one_place.proofs.Publishing.{called_clocks, put_number}
use Rattle.one_place.proofs.queues.call.Goals as goal

pub overflow_add-clock : goal.overflow_add-clock
overflow_add-clock c =
    let f = c.args.source in
    let at : c.from.result ≡ f = c.from.ensures in
    let within : f < length c.args.clocks.now = c.requires.within in
    let many : length c.put_items.new.clocks ≡ length c.args.clocks.now = c.put_items.auto.clocks in
    let number : (slice_index_or c.put_items.new.clocks c.from.result c.index-clocks-from.result).seq ≡ (clock_at c.args.clocks.now c.from.result).seq =
    put_number c.args.items.items c.args.clocks.now c.put_items.new.clocks c.from.result c.index-clocks-from.result c.in_ok-put_items.ensures.ok (omega (arith, at, within, many)) in
    let same : (clock_at c.args.clocks.now c.from.result).seq ≡ (clock_at c.args.clocks.now f).seq = ap (λ k. (clock_at c.args.clocks.now k).seq) at in
    let count : (clock_at c.args.clocks.now f).seq < 2 ^ 32 = c.requires.count in
    omega (arith, number, same, count)

pub returns-clause-clocks : goal.returns-clause-clocks
returns-clause-clocks c =
    let at : c.from.result ≡ c.args.source = c.from.ensures in
    let within : c.args.source < length c.args.clocks.now = c.requires.within in
    let many : length c.put_items.new.clocks ≡ length c.args.clocks.now = c.put_items.auto.clocks in
    called_clocks c.from.result c.put_items.new.clocks c.index-clocks-from.result c.in_ok-put_items.ensures.clocks (omega (arith, at, within, many))
