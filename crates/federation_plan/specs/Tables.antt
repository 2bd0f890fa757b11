-- Tables by federate and interface.
use Rattle.std.specs.Prelude.{ℕ, ◌-◌, ◌<◌, ◌≤◌, ◌≡◌, Bool, nat_lt, ◌||◌, List, [], ◌∷◌, ◌++◌, map, length, slice_index_or, slice_get, Option, Some, None, if◌then◌else◌}
use Rattle.hel_values.specs.declared.EndRef.{EndRef}
use Rattle.hel_lists.specs.Members.{Each}
use Rattle.interface_names.specs.declared.records.EndRecord.{EndRecord}
use Rattle.interface_names.specs.declared.records.FederateRecord.{FederateRecord}
use Rattle.message_filters.specs.Limits.{most_filters}
use Rattle.message_filters.specs.declared.filter.Filter.{Filter}
use Rattle.federation_plan.specs.declared.refusal.PlanRefusal.{PlanRefusal}
use Rattle.federation_plan.specs.declared.refusal.PlanRefusal.TheVariants.{ChainTooLong}
use Rattle.federation_plan.specs.declared.chains.EndChains.{EndChains}
use Rattle.federation_plan.specs.Interfaces.{Interface, is_ref, IsFilter, filter_at}
use Rattle.federation_plan.specs.Chains.{filter_of}

-- the row of a federate, and what stands at an interface
abbrev pub row_at : {A : Type 0} → List (List A) → ℕ → List A
row_at table f = slice_index_or table f []

abbrev pub entry : List (List (List EndRef)) → EndRef → List EndRef
entry table r = slice_index_or (row_at table r.fed) r.index []

-- a table has a place for the interface
abbrev pub HasPlace : {A : Type 0} → List (List A) → EndRef → Type 0
HasPlace table r = r.index < length (row_at table r.fed)

-- the last of a list is this one
abbrev pub ends_with : List EndRef → EndRef → Bool
ends_with qs r = is_ref r (slice_get qs (length qs - 1))

-- a list with one more behind it, where that one isn't the last already
abbrev pub with_last : List EndRef → EndRef → List EndRef
with_last qs r = if ends_with qs r then qs else qs ++ r ∷ []

-- an endpoint at which more filters stand on one side, by these tables, than a chain holds
abbrev pub too_long_in : List (List (List EndRef)) → List (List (List EndRef)) → Interface EndRecord → Option PlanRefusal
too_long_in sources destinations e =
    if nat_lt most_filters (length (entry sources e.ref)) || nat_lt most_filters (length (entry destinations e.ref)) then Some (ChainTooLong e.ref) else None

-- so many lists of filters, none of them longer than a chain
pub record AreLists (feds : List FederateRecord) (row : List (List EndRef)) (count : ℕ) : Type 0 where
  pub many : length row ≡ count
  pub short : (n : ℕ) → length (slice_index_or row n []) ≤ most_filters
  pub known : (n : ℕ) → Each (IsFilter feds) (slice_index_or row n [])

-- the chain of these filters
abbrev pub chain_by : (List ℕ → Option EndRef) → List FederateRecord → List EndRef → List Filter
chain_by meaning feds refs = map (λ r. filter_of meaning (filter_at feds r).kind) refs

abbrev pub chains_by : (List ℕ → Option EndRef) → List FederateRecord → List EndRef → List EndRef → EndChains
chains_by meaning feds sources destinations = record { source = chain_by meaning feds sources; destination = chain_by meaning feds destinations }

-- stands where there is no endpoint
abbrev pub blank_chains : EndChains
blank_chains = record { source = []; destination = [] }

-- what stands at an endpoint
abbrev pub chains_at : List (List EndChains) → EndRef → EndChains
chains_at table e = slice_index_or (row_at table e.fed) e.index blank_chains

-- the endpoint of the last reroute, where there is one
abbrev pub rerouted_at : List (List (Option EndRef)) → EndRef → Option EndRef
rerouted_at table e = slice_index_or (row_at table e.fed) e.index None
