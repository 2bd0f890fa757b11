use Rattle.std.proofs.Common.{arith}
use Rattle.std.specs.HashMap.{get_by_text}
use Rattle.federation_plan.specs.Interfaces.{endpoint_of, end_name}
use Rattle.federation_plan.proofs.Named.{federate_named, all_named}
use Rattle.federation_plan.proofs.names.endpoint_names.Goals as goal

pub loop-f-preserved : goal.loop-f-preserved
loop-f-preserved c = federate_named (λ fed. fed.endpoints) end_name (get_by_text c.loop-f.names) (get_by_text c.add_names.new.names) _
    c.loop-f.f c.args.federates.now c.index-federates-f.result c.as_slice.result.now (omega arith) c.index-federates-f.is c.as_slice.ensures c.loop-f.invariant c.in_ok-add_names.ensures

pub returns : goal.returns
unfolding endpoint_of
returns c = all_named (λ fed. fed.endpoints) end_name (get_by_text c.loop-f.names) _ c.loop-f.f c.args.federates.now c.loop-f-test.false c.loop-f.invariant
