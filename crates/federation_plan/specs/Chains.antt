-- The filters that stand on an endpoint, and what they make of a message.
use Rattle.std.specs.Prelude.{ℕ, ◌+◌, ◌*◌, ◌≤◌, ◌<◌, Bool, ◌||◌, not, List, map, Option, unwrap_or}
use Rattle.std.specs.List.{filter_map}
use Rattle.hel_values.specs.declared.EndRef.{EndRef}
use Rattle.interface_names.specs.declared.records.EndRecord.{EndRecord}
use Rattle.interface_names.specs.declared.records.FilterKind.{FilterKind}
use Rattle.interface_names.specs.declared.records.FilterKind.TheVariants.{Delay, Drop, Reroute}
use Rattle.interface_names.specs.declared.records.FederateRecord.{FederateRecord}
use Rattle.interface_names.specs.Filter.{FilterTerms}
use Rattle.message_filters.specs.declared.filter.Filter.{Filter}
use Rattle.message_filters.specs.declared.filter.Filter.TheVariants.{Delay as Later, Drop as Dropping, Reroute as Rerouting}
use Rattle.message_filters.specs.declared.chain.Filtered.{Filtered}
use Rattle.message_filters.specs.declared.chain.Filtered.TheVariants.{Kept, Dropped}
use Rattle.message_filters.specs.Filter.{reroute_of}
use Rattle.message_filters.specs.Chain.{filtered_of}
use Rattle.helics_time.specs.Time.{longest_span}
use Rattle.message_filters.specs.Limits.{most_filters}
use Rattle.federation_plan.specs.Interfaces.{Interface, IsEndpoint, name_ref, naming, endpoint_of, endpoint_at, filters}

-- the two sides on which a filter may stand
abbrev pub sources : FilterTerms → List (List ℕ)
sources t = t.source_of

abbrev pub destinations : FilterTerms → List (List ℕ)
destinations t = t.destination_of

-- a filter as a chain has it; in a plan the name of a reroute means an endpoint
abbrev pub filter_of : (List ℕ → Option EndRef) → FilterKind → Filter
filter_of meaning (Delay delay) = Later delay
filter_of meaning (Drop per_million seed) = Dropping per_million seed
filter_of meaning (Reroute name) = Rerouting (unwrap_or (meaning name) (record { fed = 0; index = 0 }))

-- the chain of a side
abbrev pub chain_on : (FilterTerms → List (List ℕ)) → List FederateRecord → EndRef → List Filter
chain_on side feds e = map (λ i. filter_of (endpoint_of feds) i.item.kind) (naming (endpoint_of feds) side (filters feds) e)

unfoldable pub source_chain : List FederateRecord → EndRef → List Filter
source_chain feds e = chain_on sources feds e

unfoldable pub destination_chain : List FederateRecord → EndRef → List Filter
destination_chain feds e = chain_on destinations feds e

-- behind a first chain that added a delay, a second one
abbrev pub later_by : ℕ → Filtered → Filtered
later_by delay (Kept dest more) = Kept dest (delay + more)
later_by delay (Dropped place) = Dropped place

-- a message passes the source chain of its endpoint, then the destination chain of the endpoint that results
abbrev pub filtered_at : List FederateRecord → EndRef → ℕ → EndRef → Filtered
filtered_at feds from sequence dest = at_end (filtered_of (source_chain feds from) from.fed sequence dest)
  where
    at_end : Filtered → Filtered
    at_end (Kept end delay) = later_by delay (filtered_of (destination_chain feds end) from.fed sequence end)
    at_end (Dropped place) = Dropped place

-- a message is kept for an endpoint, later by no more than two chains delay, or dropped at a place of a chain
abbrev pub IsFiltered : List FederateRecord → Filtered → Type 0
IsFiltered feds (Kept end delay) = IsEndpoint feds end × (delay ≤ 2 * (most_filters * longest_span))
IsFiltered feds (Dropped place) = place < most_filters

-- an endpoint that isn't targeted may send to every endpoint, a targeted one to its destination targets and to those
-- that name it among their source targets
abbrev pub allows : (List ℕ → Option EndRef) → Interface EndRecord → Interface EndRecord → Bool
allows meaning e x = not e.item.targeted || name_ref meaning e.item.destination_targets x.ref || name_ref meaning x.item.source_targets e.ref

abbrev pub may_send : List FederateRecord → EndRef → EndRef → Bool
may_send feds from to = allows (endpoint_of feds) (endpoint_at feds from) (endpoint_at feds to)

-- the reroutes of a chain
abbrev pub reroutes : List Filter → List EndRef
reroutes chain = filter_map reroute_of chain
