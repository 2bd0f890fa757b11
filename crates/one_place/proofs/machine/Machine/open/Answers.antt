use Rattle.std.proofs.Common.{List, subst, sym}
use Rattle.hel_lists.specs.Members.{Each}
use Rattle.interface_names.specs.declared.records.FederateRecord.{FederateRecord}
use Rattle.federation_plan.specs.Plan.{IsKept}
use Rattle.one_place.proofs.machine.Machine.open.Goals as goal

pub new-requires : goal.new-requires
new-requires c = subst (λ (feds : List FederateRecord). Each IsKept feds) (sym c.federates.ensures.federates) c.federates.ensures.plan.kept
