-- Which federates a registry takes, and what it holds.
use Rattle.std.specs.Prelude.{◌≡◌, ◌≢◌, ◌≤◌, ◌⊎◌, Bool, false, nat_lt, nat_le, length, List, [], ◌∷◌, ◌++◌, All, AllPairs, Option, None, Some, Result, Ok, Err, if◌then◌else◌, ℕ}
use Rattle.std.specs.List.{list_any, flat_map}
use Rattle.std.specs.Option.{option_map, option_or}
use Rattle.std.specs.Str.{bytes_eq}
use Rattle.interface_names.specs.declared.names.GlobalName.{GlobalName}
use Rattle.interface_names.specs.declared.records.FederateRecord.{FederateRecord}
use Rattle.interface_names.specs.declared.registry.RegistryRefusal.{RegistryRefusal}
use Rattle.interface_names.specs.declared.registry.RegistryRefusal.TheVariants.{TooManyFederates, BadName, DuplicateFederate, TooManyInterfaces, DuplicateName, OutOfMemory}
use Rattle.interface_names.specs.Limits.{most_federates, most_interfaces}
use Rattle.interface_names.specs.GlobalName.{first_duplicate}
use Rattle.interface_names.specs.Federate.{names_of, has_bad_name, interface_count}

-- the names of all interfaces, federate by federate
abbrev pub all_names : List FederateRecord → List GlobalName
all_names federates = flat_map names_of federates

-- a federate has this name
abbrev pub has_federate : List FederateRecord → List ℕ → Bool
has_federate federates name = list_any (λ f. bytes_eq f.name name) federates

-- the first reason to refuse a federate, but for the names of its interfaces in the federation
abbrev pub plain_refusal_of : List FederateRecord → FederateRecord → Option RegistryRefusal
plain_refusal_of federates f =
    if nat_le most_federates (length federates) then Some TooManyFederates
    else (if has_bad_name f then Some BadName
    else (if has_federate federates f.name then Some DuplicateFederate
    else (if nat_lt most_interfaces (interface_count f) then Some TooManyInterfaces
    else None)))

-- the reason to refuse names that come behind others: the first that stands among those before it
abbrev pub duplicate_refusal_of : List GlobalName → List GlobalName → Option RegistryRefusal
duplicate_refusal_of earlier names = option_map (λ duplicate. DuplicateName duplicate.name) (first_duplicate earlier names)

-- the first reason to refuse a federate
abbrev pub refusal_of : List FederateRecord → FederateRecord → Option RegistryRefusal
refusal_of federates f = option_or (plain_refusal_of federates f) (duplicate_refusal_of (all_names federates) (names_of f))

-- what `add` may answer: the next number where there is no reason to refuse, the first reason, and for want of memory
-- nothing of it, where no plain reason stands
abbrev pub Answers : List FederateRecord → FederateRecord → Result ℕ RegistryRefusal → Type 0
Answers federates f (Ok number) = (refusal_of federates f ≡ None) × (number ≡ length federates)
Answers federates f (Err refusal) = (refusal_of federates f ≡ Some refusal) ⊎ ((refusal ≡ OutOfMemory) × (plain_refusal_of federates f ≡ None))

-- what it leaves
abbrev pub added : List FederateRecord → FederateRecord → Result ℕ RegistryRefusal → List FederateRecord
added federates f (Ok number) = federates ++ f ∷ []
added federates f (Err refusal) = federates

-- what a registry holds
pub record IsRegistry (federates : List FederateRecord) : Type 0 where
  pub few : length federates ≤ most_federates
  pub no_bad_name : All (λ f. has_bad_name f ≡ false) federates
  pub few_interfaces : All (λ f. interface_count f ≤ most_interfaces) federates
  -- no two federates of one name, and no two interfaces of one kind and one name
  pub federates_once : AllPairs (λ f g. f.name ≢ g.name) federates
  pub names_once : AllPairs ◌≢◌ (all_names federates)
