-- Registries over lists of calls.
use Rattle.std.specs.Prelude.{◌≡◌, ℕ, List, [], ◌∷◌, map, Result, is_ok}
use Rattle.std.specs.List.{filter}
use Rattle.interface_names.specs.declared.records.FederateRecord.{FederateRecord}
use Rattle.interface_names.specs.declared.registry.RegistryRefusal.{RegistryRefusal}
use Rattle.interface_names.specs.Registry.{Answers, added, IsRegistry}

-- a call of `add` with its answer
pub record Call : Type 0 where
  pub federate : FederateRecord
  pub answer : Result ℕ RegistryRefusal

-- these calls, one after another, lead from one registry to another
abbrev pub Runs : List FederateRecord → List Call → List FederateRecord → Type 0
Runs before [] after = after ≡ before
Runs before (c ∷ calls) after = Answers before c.federate c.answer × Runs (added before c.federate c.answer) calls after

-- the federates that were accepted, in order
abbrev pub accepted : List Call → List FederateRecord
accepted calls = map (λ c. c.federate) (filter (λ c. is_ok c.answer) calls)

pub record RegistryLaws : Type 0 where
  -- after any calls a new registry is the list of the accepted federates
  pub holds : (calls : List Call) (after : List FederateRecord) → Runs [] calls after → after ≡ accepted calls
  -- which have each name once for each kind
  pub keeps : (calls : List Call) (after : List FederateRecord) → Runs [] calls after → IsRegistry after
