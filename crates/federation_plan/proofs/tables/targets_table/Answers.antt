use Rattle.std.proofs.Common.{◌<◌, ℕ, refl, sym, subst, arith, length}
use Rattle.interface_names.specs.declared.records.FederateRecord.{FederateRecord}
use Rattle.federation_plan.proofs.Named.{federate_within}
use Rattle.federation_plan.proofs.tables.targets_table.Goals as goal

pub attach_inputs-requires-clause-places : goal.attach_inputs-requires-clause-places
attach_inputs-requires-clause-places c = λ name r means.
    let within : r.fed < length c.args.federates.now = federate_within (λ (f : FederateRecord). f.publications) _ r.fed r.index refl (c.requires.known name r means) in
    subst (λ (n : ℕ). r.index < n) (sym (c.loop-federate.invariant.places r.fed (omega arith))) (c.requires.known name r means)
