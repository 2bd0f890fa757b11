use Rattle.std.proofs.Common.{arith}
use Rattle.interface_names.proofs.Lists.{filter_map_grown}
use Rattle.interface_names.proofs.names.push_names.Goals as goal

pub loop-interface-preserved : goal.loop-interface-preserved
loop-interface-preserved g c =
    filter_map_grown _ c.args.interfaces.now c.loop-interface.interface-index c.interface-item.result _ _ _
    (omega arith) c.interface-item.is c.loop-interface.invariant c.in_ok-push_name.ensures
