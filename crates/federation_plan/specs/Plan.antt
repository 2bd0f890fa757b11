-- The plan of a federation.
use Rattle.std.specs.Prelude.{◌≡◌, ◌⊎◌, ℕ, List, length, slice_index_or, None, Some, Result, Ok, Err}
use Rattle.hel_lists.specs.Members.{Each}
use Rattle.hel_values.specs.declared.EndRef.{EndRef}
use Rattle.helics_time.specs.Settings.{IsTerms}
use Rattle.interface_names.specs.declared.records.FederateRecord.{FederateRecord}
use Rattle.interface_names.specs.Filter.{KeepsBounds}
use Rattle.interface_names.specs.Registry.{IsRegistry}
use Rattle.dependency_paths.specs.Paths.{AreAncestors}
use Rattle.federation_plan.specs.declared.refusal.PlanRefusal.{PlanRefusal}
use Rattle.federation_plan.specs.declared.refusal.PlanRefusal.TheVariants.{OutOfMemory}
use Rattle.federation_plan.specs.declared.tree.Tree.{Tree}
use Rattle.federation_plan.specs.Interfaces.{refs_naming, publication_of, inputs}
use Rattle.federation_plan.specs.Tree.{IsValid}
use Rattle.federation_plan.specs.Depends.{depends}
use Rattle.federation_plan.specs.Refusal.{refusal_of}

-- a plan as contracts see it: the federates, the tree, and a row of ancestors for each federate
pub record Federation : Type 0 where
  pub federates : List FederateRecord
  pub tree : Tree
  pub ancestors : List (List ℕ)

-- what each record keeps
pub record IsKept (f : FederateRecord) : Type 0 where
  pub terms : IsTerms f.settings
  pub filters : Each (λ t. KeepsBounds t.kind t.destination_of) f.filters

-- what a plan holds: names that stand once, no reason against it, a tree with a core for each federate, and the ancestors
-- along the dependencies
pub record IsFederation (p : Federation) : Type 0 where
  pub registry : IsRegistry p.federates
  pub kept : Each IsKept p.federates
  pub no_refusal : refusal_of p.federates ≡ None
  pub valid : IsValid p.tree
  pub cores : length p.tree.cores ≡ length p.federates
  pub closed : AreAncestors (length p.federates) (depends p.federates) p.ancestors

-- the inputs that target a publication
abbrev pub targets_of : List FederateRecord → EndRef → List EndRef
targets_of feds p = refs_naming (publication_of feds) (λ i. i.targets) (inputs feds) p

-- the core of a federate
abbrev pub core_at : Federation → ℕ → ℕ
core_at p f = slice_index_or p.tree.cores f 0

-- a plan of these federates and this tree, or the first reason against it, or want of memory
abbrev pub Builds : List FederateRecord → Tree → Result Federation PlanRefusal → Type 0
Builds feds tree (Ok p) = (refusal_of feds ≡ None) × (p.federates ≡ feds) × (p.tree ≡ tree) × IsFederation p
Builds feds tree (Err refusal) = (refusal ≡ OutOfMemory) ⊎ (refusal_of feds ≡ Some refusal)
