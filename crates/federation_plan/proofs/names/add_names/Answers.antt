use Rattle.std.proofs.Common.{arith, ◌∙◌}
use Rattle.std.specs.HashMap.{get_by_text}
use Rattle.federation_plan.specs.Names.{known_as}
use Rattle.federation_plan.proofs.Named.{one_named, called}
use Rattle.federation_plan.proofs.names.add_names.Goals as goal

pub loop-index-preserved : goal.loop-index-preserved
loop-index-preserved g c = one_named (known_as g.T.Called.own_name) (get_by_text c.loop-index.names) (get_by_text c.put.new.names) _
    c.args.owner.now c.args.f c.loop-index.index c.args.interfaces.now c.index-interfaces-index.result _ (omega arith) c.loop-index.invariant
    (c.into_string.ensures ∙ called g.T.Called.own_name c.args.owner.now _ _ c.called-global.result.0.now c.called-global.result.1 c.args.f c.loop-index.index c.args.interfaces.now
    c.index-interfaces-index.result c.as_str.ensures c.in_ok-name.ensures c.called-global.ensures c.index-interfaces-index.is)
    c.in_ok-put.ensures
