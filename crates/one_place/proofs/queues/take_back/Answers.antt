use Rattle.std.proofs.Common.{◌∙◌, ap, arith}
use Rattle.std.specs.Prelude.{slice_set}
use Rattle.std.proofs.lemmas.List.{get_or_default}
use Rattle.one_place.specs.Members.{blank_clock, taken_back}
use Rattle.one_place.proofs.Mapped.{map_next}
use Rattle.one_place.proofs.Puts.{rest_fed}
use Rattle.one_place.proofs.queues.take_back.Goals as goal

pub take_back-requires : goal.take_back-requires
take_back-requires c =
    rest_fed c.args.source c.args.seq c.args.clocks.now c.loop-at.clocks c.loop-at.at c.index-clocks-at.result c.requires (omega arith) c.loop-at.invariant

pub loop-at-preserved : goal.loop-at-preserved
loop-at-preserved c =
    map_next (taken_back c.args.source c.args.seq) c.args.clocks.now c.loop-at.clocks _ c.loop-at.at blank_clock (omega arith) c.loop-at.invariant
    (ap (slice_set c.loop-at.clocks c.loop-at.at)
    (c.take_back.ensures ∙ ap (taken_back c.args.source c.args.seq) (get_or_default c.loop-at.clocks c.loop-at.at c.index-clocks-at.result blank_clock (omega arith))))
