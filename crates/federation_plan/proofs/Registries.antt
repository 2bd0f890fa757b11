-- What a registry tells of the federates of a plan.
use Rattle.std.proofs.Common.{◌≡◌, ◌⊎◌, inl, inr, ℕ, ◌≤◌, List, [], ◌∷◌, length, arith, refl, sym, ◌∙◌, ap, subst, Option, Some, None}
use Rattle.std.specs.Option.{option_or}
use Rattle.std.proofs.lemmas.Bool.{cases_lt}
use Rattle.std.proofs.lemmas.List.{get_or_past}
use Rattle.interface_names.specs.Limits.{most_interfaces}
use Rattle.interface_names.specs.Federate.{interface_count}
use Rattle.interface_names.specs.Registry.{IsRegistry}
use Rattle.interface_names.specs.declared.records.FederateRecord.{FederateRecord}
use Rattle.federation_plan.specs.declared.refusal.PlanRefusal.{PlanRefusal}
use Rattle.federation_plan.specs.declared.refusal.PlanRefusal.TheVariants.{NoFederates}
use Rattle.hel_lists.specs.Members.{Each}
use Rattle.dependency_paths.specs.Paths.{AreAncestors}
use Rattle.federation_plan.specs.declared.tree.Tree.{Tree}
use Rattle.federation_plan.specs.Tree.{IsValid}
use Rattle.federation_plan.specs.Depends.{depends}
use Rattle.federation_plan.specs.Plan.{IsKept, IsFederation}
use Rattle.federation_plan.specs.Interfaces.{AreFew, blank_federate}
use Rattle.federation_plan.specs.Refusal.{none_at_all, named_refusal, refusal_of}

-- it holds few federates with few interfaces
pub few_of : (feds : List FederateRecord) → IsRegistry feds → AreFew feds
few_of feds is = record {
  federates = is.few;
  interfaces = λ f. elim (cases_lt f (length feds)) [
    | inl below ↦ is.few_interfaces f blank_federate below
    | inr past ↦ subst (λ (x : FederateRecord). interface_count x ≤ most_interfaces) (sym (get_or_past feds f blank_federate past)) (omega arith)
  ];
}

-- there are federates
pub some_of : (feds : List FederateRecord) → (length feds ≡ 0 → ⊥) → none_at_all feds ≡ None
some_of [] some = absurd (some refl)
some_of (f ∷ feds) some = refl

-- there are none
pub none_of : (feds : List FederateRecord) → length feds ≡ 0 → refusal_of feds ≡ Some NoFederates
unfolding refusal_of
none_of [] none = refl
none_of (f ∷ feds) none = absurd (omega arith)

-- then the other reasons are all
pub reasons_of : (feds : List FederateRecord) → none_at_all feds ≡ None → refusal_of feds ≡ named_refusal feds
unfolding refusal_of
reasons_of feds some = ap (λ (o : Option PlanRefusal). option_or o (named_refusal feds)) some

-- federates against which nothing speaks, over a valid tree and with their ancestors
pub federation : (feds records : List FederateRecord) (tree : Tree) (rows : List (List ℕ)) → records ≡ feds → IsRegistry feds → none_at_all feds ≡ None → named_refusal feds ≡ None →
    IsValid tree → length tree.cores ≡ length feds → Each IsKept records → AreAncestors (length records) (depends records) rows →
    IsFederation (record { federates = feds; tree = tree; ancestors = rows })
federation feds records tree rows same is some none valid cores kept closed = record {
  registry = is;
  kept = subst (Each IsKept) same kept;
  no_refusal = reasons_of feds some ∙ none;
  valid = valid;
  cores = cores;
  closed = subst (λ (l : List FederateRecord). AreAncestors (length l) (depends l) rows) same closed;
}

-- the first reason but that there are none
pub reason_is : {M : Type 0} (feds records : List FederateRecord) (r : PlanRefusal) → records ≡ feds → none_at_all feds ≡ None → M ⊎ (named_refusal records ≡ Some r) → M ⊎ (refusal_of feds ≡ Some r)
reason_is feds records r same some (inl wanting) = inl wanting
reason_is feds records r same some (inr is) = inr (reasons_of feds some ∙ ap named_refusal (sym same) ∙ is)
