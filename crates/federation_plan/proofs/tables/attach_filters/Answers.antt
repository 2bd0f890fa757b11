use Rattle.std.proofs.Common.{◌∙◌, arith}
use Rattle.federation_plan.proofs.Attached.{attached_from}
use Rattle.federation_plan.proofs.tables.attach_filters.Goals as goal

pub loop-f-preserved : goal.loop-f-preserved
loop-f-preserved c = record {
  places = λ g. c.in_ok-attach_filters_of.ensures.places g ∙ c.loop-f.invariant.places g;
  entries = attached_from _ _ _ _ _ _ _ c.index-federates-f.result _ c.loop-f.invariant.entries (omega arith) c.index-federates-f.is c.as_slice.ensures
      c.in_ok-attach_filters_of.ensures.entries;
}
