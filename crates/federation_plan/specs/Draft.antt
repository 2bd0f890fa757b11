-- What is looked up while a plan is made, and the tables that it keeps.
use Rattle.std.specs.Prelude.{ℕ, ◌≡◌, List, length}
use Rattle.std.specs.HashMap.{get_by_text}
use Rattle.hel_values.specs.declared.EndRef.{EndRef}
use Rattle.interface_names.specs.declared.records.FederateRecord.{FederateRecord}
use Rattle.federation_plan.specs.declared.draft.Draft.{Draft}
use Rattle.federation_plan.specs.declared.draft.Tables.{Tables}
use Rattle.federation_plan.specs.Interfaces.{refs_naming, publication_of, endpoint_of, federate_at, filters, IsEndpoint}
use Rattle.federation_plan.specs.Chains.{sources, destinations, source_chain, destination_chain}
use Rattle.federation_plan.specs.Tables.{row_at, entry, chains_at, AreLists}
use Rattle.federation_plan.specs.Plan.{targets_of}

-- the names of interfaces, and the filters on both sides of each endpoint
pub record IsDraft (feds : List FederateRecord) (d : Draft) : Type 0 where
  pub publications_are : (name : List ℕ) → get_by_text d.publications name ≡ publication_of feds name
  pub endpoints_are : (name : List ℕ) → get_by_text d.endpoints name ≡ endpoint_of feds name
  pub source_places : (f : ℕ) → length (row_at d.sources f) ≡ length (federate_at feds f).endpoints
  pub sources_are : (e : EndRef) → entry d.sources e ≡ refs_naming (endpoint_of feds) sources (filters feds) e
  pub destination_places : (f : ℕ) → length (row_at d.destinations f) ≡ length (federate_at feds f).endpoints
  pub destinations_are : (e : EndRef) → entry d.destinations e ≡ refs_naming (endpoint_of feds) destinations (filters feds) e

-- the filters on a side are few enough for chains
abbrev pub IsSide : List FederateRecord → List (List (List EndRef)) → Type 0
IsSide feds table = (f : ℕ) → AreLists feds (row_at table f) (length (federate_at feds f).endpoints)

-- the endpoint of each name, the targets of each publication, the chains of each endpoint
pub record AreTables (feds : List FederateRecord) (t : Tables) : Type 0 where
  pub endpoints_are : (name : List ℕ) → get_by_text t.endpoints name ≡ endpoint_of feds name
  pub target_places : (f : ℕ) → length (row_at t.targets f) ≡ length (federate_at feds f).publications
  pub targets_are : (p : EndRef) → entry t.targets p ≡ targets_of feds p
  pub chain_places : (f : ℕ) → length (row_at t.chains f) ≡ length (federate_at feds f).endpoints
  pub sources_are : (e : EndRef) → IsEndpoint feds e → (chains_at t.chains e).source ≡ source_chain feds e
  pub destinations_are : (e : EndRef) → IsEndpoint feds e → (chains_at t.chains e).destination ≡ destination_chain feds e
