use Rattle.std.proofs.Common.{◌∙◌, sym, ap, subst, List}
use Rattle.interface_names.specs.declared.records.FederateRecord.{FederateRecord}
use Rattle.federation_plan.specs.declared.tree.NodeRow.{NodeRow}
use Rattle.federation_plan.specs.Interfaces.{AreFew}
use Rattle.federation_plan.specs.Tree.{parents_of}
use Rattle.federation_plan.specs.Draft.{AreTables}
use Rattle.federation_plan.proofs.Registries.{few_of, federation}
use Rattle.federation_plan.proofs.plan.finish.Goals as goal

pub ancestors_of-requires-clause-few : goal.ancestors_of-requires-clause-few
ancestors_of-requires-clause-few c = subst AreFew (sym c.as_slice-records.ensures) (few_of _ c.requires.registry)

pub tables_of-requires-clause-few : goal.tables_of-requires-clause-few
tables_of-requires-clause-few c = subst AreFew (sym c.as_slice-records.ensures) (few_of _ c.requires.registry)

pub invariant_of-result : goal.invariant_of-result
invariant_of-result c = (
  federation _ _ _ _ c.as_slice-records.ensures c.requires.registry c.requires.some c.requires.no_refusal c.requires.valid c.requires.cores c.know_all.ensures c.in_ok-ancestors.ensures,
  subst (λ (l : List FederateRecord). AreTables l c.in_ok-tables.tables) c.as_slice-records.ensures c.in_ok-tables.ensures,
  c.in_ok-parents.ensures ∙ ap (λ (l : List NodeRow). parents_of l) c.as_slice.ensures,
)

pub returns-clause-is : goal.returns-clause-is
returns-clause-is c =
    federation _ _ _ _ c.as_slice-records.ensures c.requires.registry c.requires.some c.requires.no_refusal c.requires.valid c.requires.cores c.know_all.ensures c.in_ok-ancestors.ensures
