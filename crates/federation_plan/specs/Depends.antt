-- Which federates depend on which.
use Rattle.std.specs.Prelude.{ℕ, Bool, nat_eq, ◌&&◌, ◌||◌, List, Option, None, Some}
use Rattle.std.specs.List.{list_any, last_or}
use Rattle.hel_values.specs.declared.EndRef.{EndRef}
use Rattle.hel_values.specs.Values.{same_end}
use Rattle.interface_names.specs.declared.records.EndRecord.{EndRecord}
use Rattle.interface_names.specs.declared.records.FederateRecord.{FederateRecord}
use Rattle.message_filters.specs.declared.filter.Filter.{Filter}
use Rattle.federation_plan.specs.Interfaces.{Interface, name_fed, publication_of, endpoint_of, inputs, endpoints}
use Rattle.federation_plan.specs.Chains.{allows, reroutes, source_chain}

-- the endpoint of the last reroute of a chain
abbrev pub last_reroute : List Filter → Option EndRef
last_reroute chain = last_or None (reroutes chain)

-- an endpoint reaches that of the last reroute in its source chain, else all to which it may send
abbrev pub reaches_by : (List ℕ → Option EndRef) → Option EndRef → Interface EndRecord → Interface EndRecord → Bool
reaches_by meaning None e x = allows meaning e x
reaches_by meaning (Some r) e x = same_end x.ref r

abbrev pub reaches : List FederateRecord → Interface EndRecord → Interface EndRecord → Bool
reaches feds e x = reaches_by (endpoint_of feds) (last_reroute (source_chain feds e.ref)) e x

-- an input of f targets a publication of a
abbrev pub by_value : List FederateRecord → ℕ → ℕ → Bool
by_value feds a f = list_any (λ i. nat_eq f i.ref.fed && name_fed (publication_of feds) i.item.targets a) (inputs feds)

-- an endpoint of a reaches one of f
abbrev pub by_message : List FederateRecord → ℕ → ℕ → Bool
by_message feds a f =
    list_any (λ e. nat_eq a e.ref.fed && list_any (λ x. nat_eq f x.ref.fed && reaches feds e x) (endpoints feds)) (endpoints feds)

-- f depends on a
unfoldable pub depends : List FederateRecord → ℕ → ℕ → Bool
depends feds a f = by_value feds a f || by_message feds a f
