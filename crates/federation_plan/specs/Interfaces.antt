-- The interfaces of a federation, and their names.
use Rattle.std.specs.Prelude.{ℕ, ◌≡◌, ◌<◌, ◌≤◌, Bool, false, nat_eq, map, find, length, List, [], Option, None, Some, slice_index_or}
use Rattle.std.specs.List.{list_any, filter, flat_map, enumerate_from}
use Rattle.std.specs.Option.{option_map}
use Rattle.std.specs.Str.{bytes_eq}
use Rattle.hel_values.specs.declared.EndRef.{EndRef}
use Rattle.hel_values.specs.Values.{same_end}
use Rattle.hel_values.specs.declared.ValueKind.TheVariants.{Int}
use Rattle.machine_laws.specs.Machine.{default_terms}
use Rattle.interface_names.specs.declared.records.PubRecord.{PubRecord}
use Rattle.interface_names.specs.declared.records.InputRecord.{InputRecord}
use Rattle.interface_names.specs.declared.records.EndRecord.{EndRecord}
use Rattle.interface_names.specs.declared.records.FilterKind.TheVariants.{Delay}
use Rattle.interface_names.specs.declared.records.FederateRecord.{FederateRecord}
use Rattle.interface_names.specs.Filter.{FilterTerms}
use Rattle.interface_names.specs.Names.{global_name_of}
use Rattle.interface_names.specs.Limits.{most_federates, most_interfaces}
use Rattle.interface_names.specs.Federate.{interface_count}

-- an interface: the name of its federate, its reference, and what its federate says of it
pub record Interface (A : Type 0) : Type 0 where
  pub owner : List ℕ
  pub ref : EndRef
  pub item : A

-- the one of number n of federate f
abbrev pub one_in : {A : Type 0} → List ℕ → ℕ → ℕ → A → Interface A
one_in owner f n x = record { owner = owner; ref = record { fed = f; index = n }; item = x }

-- those of federate f, from number n on
abbrev pub interfaces_in : {A : Type 0} → List ℕ → ℕ → ℕ → List A → List (Interface A)
interfaces_in owner f n xs = map (λ x. one_in owner f x.0 x.1) (enumerate_from n xs)

-- those of one kind of all federates, from number f on
abbrev pub interfaces_from : {A : Type 0} → (FederateRecord → List A) → ℕ → List FederateRecord → List (Interface A)
interfaces_from kind f feds = flat_map (λ fed. interfaces_in fed.1.name fed.0 0 (kind fed.1)) (enumerate_from f feds)

-- all publications, inputs, endpoints and filters, in the order of federates and interfaces
abbrev pub publications : List FederateRecord → List (Interface PubRecord)
publications feds = interfaces_from (λ f. f.publications) 0 feds

abbrev pub inputs : List FederateRecord → List (Interface InputRecord)
inputs feds = interfaces_from (λ f. f.inputs) 0 feds

abbrev pub endpoints : List FederateRecord → List (Interface EndRecord)
endpoints feds = interfaces_from (λ f. f.endpoints) 0 feds

abbrev pub filters : List FederateRecord → List (Interface FilterTerms)
filters feds = interfaces_from (λ f. f.filters) 0 feds

-- what the federation calls them
abbrev pub pub_name : Interface PubRecord → List ℕ
pub_name p = global_name_of p.owner p.item.name p.item.global

abbrev pub end_name : Interface EndRecord → List ℕ
end_name e = global_name_of e.owner e.item.name e.item.global

-- the first of these interfaces that has the name
abbrev pub named : {A : Type 0} → (Interface A → List ℕ) → List ℕ → List (Interface A) → Option EndRef
named name_of name is = option_map (λ i. i.ref) (find (λ i. bytes_eq name (name_of i)) is)

-- the publication and the endpoint of a name
unfoldable pub publication_of : List FederateRecord → List ℕ → Option EndRef
publication_of feds name = named pub_name name (publications feds)

unfoldable pub endpoint_of : List FederateRecord → List ℕ → Option EndRef
endpoint_of feds name = named end_name name (endpoints feds)

-- tests of references: this one, one of this federate
abbrev pub is_ref : EndRef → Option EndRef → Bool
is_ref r None = false
is_ref r (Some q) = same_end r q

abbrev pub is_of : ℕ → Option EndRef → Bool
is_of f None = false
is_of f (Some q) = nat_eq f q.fed

-- one of the names means this interface, one of this federate
abbrev pub name_ref : (List ℕ → Option EndRef) → List (List ℕ) → EndRef → Bool
name_ref meaning names r = list_any (λ name. is_ref r (meaning name)) names

abbrev pub name_fed : (List ℕ → Option EndRef) → List (List ℕ) → ℕ → Bool
name_fed meaning names f = list_any (λ name. is_of f (meaning name)) names

-- those of these interfaces that name an interface, each once, in order
abbrev pub naming : {A : Type 0} → (List ℕ → Option EndRef) → (A → List (List ℕ)) → List (Interface A) → EndRef → List (Interface A)
naming meaning names all r = filter (λ i. name_ref meaning (names i.item) r) all

abbrev pub refs_naming : {A : Type 0} → (List ℕ → Option EndRef) → (A → List (List ℕ)) → List (Interface A) → EndRef → List EndRef
refs_naming meaning names all r = map (λ i. i.ref) (naming meaning names all r)

-- stand where there is no such federate or interface
abbrev pub blank_federate : FederateRecord
blank_federate = record { name = []; settings = default_terms; publications = []; inputs = []; endpoints = []; filters = [] }

abbrev pub blank_publication : PubRecord
blank_publication = record { name = []; global = false; kind = Int }

abbrev pub blank_endpoint : EndRecord
blank_endpoint =
    record { name = []; global = false; targeted = false; default_destination = None; destination_targets = []; source_targets = [] }

abbrev pub federate_at : List FederateRecord → ℕ → FederateRecord
federate_at feds f = slice_index_or feds f blank_federate

abbrev pub publication_at : List FederateRecord → EndRef → PubRecord
publication_at feds p = slice_index_or (federate_at feds p.fed).publications p.index blank_publication

-- the publication and the endpoint of a reference
abbrev pub publication_interface : List FederateRecord → EndRef → Interface PubRecord
publication_interface feds p = one_in (federate_at feds p.fed).name p.fed p.index (publication_at feds p)

abbrev pub endpoint_at : List FederateRecord → EndRef → Interface EndRecord
endpoint_at feds e = one_in (federate_at feds e.fed).name e.fed e.index (slice_index_or (federate_at feds e.fed).endpoints e.index blank_endpoint)

abbrev pub blank_filter : FilterTerms
blank_filter = record { name = None; source_of = []; destination_of = []; kind = Delay 0 }

abbrev pub filter_at : List FederateRecord → EndRef → FilterTerms
filter_at feds r = slice_index_or (federate_at feds r.fed).filters r.index blank_filter

-- a reference is that of a publication, of an input, of an endpoint, of a filter
abbrev pub IsPublication : List FederateRecord → EndRef → Type 0
IsPublication feds p = p.index < length (federate_at feds p.fed).publications

abbrev pub IsInput : List FederateRecord → EndRef → Type 0
IsInput feds i = i.index < length (federate_at feds i.fed).inputs

abbrev pub IsEndpoint : List FederateRecord → EndRef → Type 0
IsEndpoint feds e = e.index < length (federate_at feds e.fed).endpoints

abbrev pub IsFilter : List FederateRecord → EndRef → Type 0
IsFilter feds r = r.index < length (federate_at feds r.fed).filters

-- federates and interfaces are no more than a federation may have
pub record AreFew (feds : List FederateRecord) : Type 0 where
  pub federates : length feds ≤ most_federates
  pub interfaces : (f : ℕ) → interface_count (federate_at feds f) ≤ most_interfaces

-- each name that means something means a publication, an endpoint of these federates
abbrev pub ArePublications : List FederateRecord → (List ℕ → Option EndRef) → Type 0
ArePublications feds meaning = (name : List ℕ) (p : EndRef) → meaning name ≡ Some p → IsPublication feds p

abbrev pub AreEndpoints : List FederateRecord → (List ℕ → Option EndRef) → Type 0
AreEndpoints feds meaning = (name : List ℕ) (e : EndRef) → meaning name ≡ Some e → IsEndpoint feds e
