-- The filters of a federate file.
use Rattle.std.specs.Prelude.{ℕ, ◌+◌, ◌-◌, ◌^◌, Bool, false, List, [], ◌∷◌, codes, decimal, if◌then◌else◌, Option, Some, None, option_and_then, unwrap_or, ok_or, Ok, Err, ⊤}
use Rattle.std.specs.Option.{option_or, option_map_or}
use Rattle.std.specs.Str.{bytes_eq}
use Rattle.serde_json.specs.Data.{Data, array, object, Items, no_items, item}
use Rattle.serde_json.specs.Find.{as_str}
use Rattle.interface_names.specs.declared.records.FilterKind.{FilterKind}
use Rattle.interface_names.specs.declared.records.FilterKind.TheVariants.{Delay, Drop, Reroute}
use Rattle.interface_names.specs.Filter.{FilterTerms, KeepsBounds}
use Rattle.helics_time.specs.Time.{longest_span}
use Rattle.interface_names.specs.Limits.{million}
use Rattle.json_reading.specs.Keys.{Member, member_at, object_of}
use Rattle.json_reading.specs.Reading.{Read, ◌>>=◌, refused, below, here, under, members_of, optional_at, needed_at, optional_either_at, each_from}
use Rattle.json_reading.specs.Leaves.{any_text, time_up_to, whole_between, texts_in}
use Rattle.json_reading.specs.declared.refusal.ConfigCause.TheVariants.{NotAnObject, Missing, UnknownWord}
use Rattle.fed_config.specs.Words.{word_in, operations}
use Rattle.fed_config.specs.declared.words.Operation.{Operation}
use Rattle.fed_config.specs.declared.words.Operation.TheVariants.{Delay as delays, RandomDrop as drops, Reroute as reroutes}

-- ---- properties: an object with `name` and `value`, or a list of such

abbrev pub property_keys : List (List ℕ)
property_keys = codes "name" ∷ codes "value" ∷ []

-- a property is named and has a value, of any kind
unfoldable pub check_of : Data → Read ⊤
check_of property = do
  members ← members_of property_keys property
  name ← needed_at (codes "name") any_text members
  value ← needed_at (codes "value") Ok members
  Ok tt

-- each property is one
abbrev pub checks_of : Data → Read ⊤
checks_of (array properties) = each_from check_of 0 properties >>= λ all. Ok tt
checks_of (object members) = check_of (object members)
checks_of _ = here (Err NotAnObject)

abbrev pub members_in_object : Data → List Member
members_in_object property = unwrap_or (object_of property) []

-- the text at the key `name` is this one
abbrev pub is_named : List ℕ → Data → Bool
is_named name property =
    option_map_or (λ text. bytes_eq text name) (option_and_then (λ m. as_str m.1) (member_at (codes "name") (members_in_object property))) false

-- the last property of a name, with its place
abbrev pub last_named : List ℕ → ℕ → Items → Option (ℕ × Data)
last_named name place no_items = None
last_named name place (item property more) =
    option_or (last_named name (place + 1) more) (if is_named name property then Some (place, property) else None)

abbrev pub value_at : {A : Type 0} → (Data → Read A) → Data → Read A
value_at read property = needed_at (codes "value") read (members_in_object property)

abbrev pub value_of_last : {A : Type 0} → (Data → Read A) → Option (ℕ × Data) → Read (Option A)
value_of_last read None = Ok None
value_of_last read (Some p) = under (decimal p.0) (value_at read p.1) >>= λ x. Ok (Some x)

-- what the last property of a name holds, where there is one
abbrev pub property_in : {A : Type 0} → List ℕ → (Data → Read A) → Data → Read (Option A)
property_in name read (array properties) = value_of_last read (last_named name 0 properties)
property_in name read (object members) =
    if is_named name (object members) then (value_at read (object members) >>= λ x. Ok (Some x)) else Ok None
property_in name read _ = Ok None

-- the key under which properties stand, and what stands there; without it there are none
abbrev pub properties_at : Option Member → Member
properties_at None = (codes "properties", array no_items)
properties_at (Some m) = m

abbrev pub optional_property : {A : Type 0} → List ℕ → (Data → Read A) → Member → Read (Option A)
optional_property name read properties = under properties.0 (property_in name read properties.1)

abbrev pub needed_property : {A : Type 0} → List ℕ → (Data → Read A) → Member → Read A
needed_property name read properties =
    under properties.0 (property_in name read properties.1 >>= λ found. ok_or found (below name (refused [] Missing)))

-- ---- filters

-- what a filter's operation asks of its properties
abbrev pub kind_by : Operation → Member → Read FilterKind
kind_by delays properties = do
  delay ← needed_property (codes "delay") (time_up_to longest_span) properties
  Ok (Delay delay)
kind_by drops properties = do
  per_million ← needed_property (codes "dropprob") (whole_between 0 million) properties
  seed ← optional_property (codes "seed") (whole_between 0 (2 ^ 64 - 1)) properties
  Ok (Drop per_million (unwrap_or seed 0))
kind_by reroutes properties = do
  name ← needed_property (codes "newdestination") any_text properties
  Ok (Reroute name)

abbrev pub no_member : Option Member → Read ⊤
no_member None = Ok tt
no_member (Some m) = Err (below m.0 (refused [] UnknownWord))

-- a filter that reroutes stands before no destination
abbrev pub destinations_check : Operation → List Member → Read ⊤
destinations_check delays members = Ok tt
destinations_check drops members = Ok tt
destinations_check reroutes members = no_member (member_at (codes "destinationtargets") members)

abbrev pub kind_with : Operation → Member → Read FilterKind
kind_with operation properties = under properties.0 (checks_of properties.1) >>= λ checked. kind_by operation properties

abbrev pub filter_keys : List (List ℕ)
filter_keys =
    codes "name" ∷ codes "key" ∷ codes "sourcetargets" ∷ codes "destinationtargets" ∷ codes "operation" ∷ codes "properties" ∷ []

-- what a filter with these members does
unfoldable pub filter_kind_of : Operation → List Member → Read FilterKind
filter_kind_of operation members = do
  unused ← destinations_check operation members
  kind_with operation (properties_at (member_at (codes "properties") members))

unfoldable pub filter_of : Data → Read FilterTerms
filter_of value = do
  members ← members_of filter_keys value
  name ← optional_either_at (codes "name") (codes "key") any_text members
  sources ← optional_at (codes "sourcetargets") texts_in members
  destinations ← optional_at (codes "destinationtargets") texts_in members
  operation ← needed_at (codes "operation") (word_in operations) members
  kind ← filter_kind_of operation members
  Ok (record { name = name; source_of = unwrap_or sources []; destination_of = unwrap_or destinations []; kind = kind })

-- what a filter of an operation may do; one that reroutes stands before no destination, which is looked at apart
abbrev pub FitsOperation : Operation → FilterKind → Type 0
FitsOperation delays kind = (destinations : List (List ℕ)) → KeepsBounds kind destinations
FitsOperation drops kind = (destinations : List (List ℕ)) → KeepsBounds kind destinations
FitsOperation reroutes kind = KeepsBounds kind []
