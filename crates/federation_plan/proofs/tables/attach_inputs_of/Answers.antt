use Rattle.std.proofs.Common.{◌∙◌, refl, arith}
use Rattle.federation_plan.proofs.Attached.{not_last, begins_in, attached_in}
use Rattle.federation_plan.proofs.tables.attach_inputs_of.Goals as goal

pub loop-index-init : goal.loop-index-init
loop-index-init c = record { places = λ g. refl; entries = begins_in _ _ _ _ _ c.requires.earlier }

pub attach-requires-clause-fresh : goal.attach-requires-clause-fresh
attach-requires-clause-fresh c = λ r. not_last _ _ _ (c.loop-index.invariant.entries.before r)

pub loop-index-preserved : goal.loop-index-preserved
loop-index-preserved c = record {
  places = λ g. c.in_ok-attach.ensures.places g ∙ c.loop-index.invariant.places g;
  entries = attached_in _ _ _ _ _ _ _ _ c.index-inputs-index.result _ c.loop-index.invariant.entries (omega arith) c.index-inputs-index.is c.as_slice.ensures
      c.in_ok-attach.ensures.entries;
}
