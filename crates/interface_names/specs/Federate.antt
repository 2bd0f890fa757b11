-- The names of a federate's interfaces.
use Rattle.std.specs.Prelude.{ℕ, ◌+◌, Bool, false, ◌||◌, List, ◌++◌, length, Option, Some}
use Rattle.std.specs.List.{list_any, filter_map}
use Rattle.std.specs.Option.{option_map, option_map_or}
use Rattle.interface_names.specs.declared.names.InterfaceKind.{InterfaceKind}
use Rattle.interface_names.specs.declared.names.InterfaceKind.TheVariants.{Publication, Input, Endpoint, Filter}
use Rattle.interface_names.specs.declared.names.GlobalName.{GlobalName}
use Rattle.interface_names.specs.declared.records.PubRecord.{PubRecord}
use Rattle.interface_names.specs.declared.records.InputRecord.{InputRecord}
use Rattle.interface_names.specs.declared.records.EndRecord.{EndRecord}
use Rattle.interface_names.specs.declared.records.FederateRecord.{FederateRecord}
use Rattle.interface_names.specs.Filter.{FilterTerms}
use Rattle.interface_names.specs.Names.{global_name_of, is_bad_name}

-- a name as its federate wrote it, and whether it is global; an unnamed interface has none
pub record OwnName : Type 0 where
  pub name : List ℕ
  pub global : Bool

abbrev pub name_of_publication : PubRecord → Option OwnName
name_of_publication p = Some (record { name = p.name; global = p.global })

abbrev pub name_of_input : InputRecord → Option OwnName
name_of_input i = option_map (λ name. record { name = name; global = i.global }) i.name

abbrev pub name_of_endpoint : EndRecord → Option OwnName
name_of_endpoint e = Some (record { name = e.name; global = e.global })

abbrev pub name_of_filter : FilterTerms → Option OwnName
name_of_filter f = option_map (λ name. record { name = name; global = false }) f.name

-- what the federation calls an interface of this kind of this federate
abbrev pub known_as : InterfaceKind → List ℕ → OwnName → GlobalName
known_as kind federate own = record { kind = kind; name = global_name_of federate own.name own.global }

-- what it calls some interfaces, in their order
abbrev pub names_by : {A : Type 0} → (A → Option OwnName) → InterfaceKind → List ℕ → List A → List GlobalName
names_by name_of kind federate interfaces = filter_map (λ i. option_map (known_as kind federate) (name_of i)) interfaces

-- what it calls a federate's: publications, inputs, endpoints and filters, each by number
unfoldable pub names_of : FederateRecord → List GlobalName
names_of f =
    names_by name_of_publication Publication f.name f.publications
    ++ names_by name_of_input Input f.name f.inputs
    ++ names_by name_of_endpoint Endpoint f.name f.endpoints
    ++ names_by name_of_filter Filter f.name f.filters

-- an interface has a bad name
abbrev pub has_bad_by : {A : Type 0} → (A → Option OwnName) → List A → Bool
has_bad_by name_of interfaces = list_any (λ i. option_map_or (λ own. is_bad_name own.name) (name_of i) false) interfaces

-- the federate or an interface of it has a bad name
abbrev pub has_bad_name : FederateRecord → Bool
has_bad_name f =
    is_bad_name f.name
    || has_bad_by name_of_publication f.publications
    || has_bad_by name_of_input f.inputs
    || has_bad_by name_of_endpoint f.endpoints
    || has_bad_by name_of_filter f.filters

-- how many interfaces it has, of all kinds together
abbrev pub interface_count : FederateRecord → ℕ
interface_count f = length f.publications + length f.inputs + length f.endpoints + length f.filters
