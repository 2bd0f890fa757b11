use Rattle.std.proofs.Common.{◌≡◌, ◌∙◌, List, [], ◌∷◌, ◌++◌, None, ap, sym}
use Rattle.interface_names.specs.declared.records.FederateRecord.{FederateRecord}
use Rattle.interface_names.specs.Registry.{plain_refusal_of}
use Rattle.interface_names.proofs.Keeping.{keeps_table}
use Rattle.interface_names.proofs.registry.Registry.add.Goals as goal

pub invariant_of-self-2 : goal.invariant_of-self-2
invariant_of-self-2 c =
    let pushed : c.push.new.self.items ≡ c.reserve.new.self.items ++ c.args.federate ∷ [] = rw c.unwrap.ensures at c.push.ensures.items in
    let plain : plain_refusal_of c.self.inside.federates.items c.args.federate ≡ None =
    sym (c.in-None.ensures ∙ ap (λ (fs : List FederateRecord). plain_refusal_of fs c.args.federate) c.deref.ensures.value) in
    keeps_table c.self.inside.federates.items c.push.new.self.items c.args.federate
    c.self.inside.names.keys c.in_ok-names.names.items c.enter.new.table.keys
    c.self.invariant plain c.in_ok-names.ensures c.in_ok-enter.ensures.fresh
    (pushed ∙ ap (λ (fs : List FederateRecord). fs ++ c.args.federate ∷ []) c.in_ok-reserve.ensures.items) c.in_ok-enter.ensures.ok
