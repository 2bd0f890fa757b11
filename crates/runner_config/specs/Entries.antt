-- The entries of a runner file.
use Rattle.std.specs.Prelude.{ℕ, ◌<◌, ◌+◌, ◌&&◌, ◌||◌, Bool, true, false, not, if◌then◌else◌, List, [], ◌∷◌, codes, AllPairs, Option, Some, None, option_map, option_and_then, unwrap_or, ok_or, Ok, Err}
use Rattle.std.specs.Option.{option_map_or}
use Rattle.std.specs.Str.{bytes_eq}
use Rattle.serde_json.specs.Data.{Data, Items, no_items, item}
use Rattle.serde_json.specs.Find.{as_str}
use Rattle.json_reading.specs.Keys.{Member, member_at, object_of, is_doubled}
use Rattle.json_reading.specs.Reading.{Read, ◌>>=◌}
use Rattle.runner_config.specs.declared.refusal.RunnerRefusal.TheVariants.{BadEntry, MissingName, MissingExec, UnclosedQuote, HostNotLocal, TwoBrokers}
use Rattle.runner_config.specs.declared.entries.EntryFields.{EntryFields}
use Rattle.runner_config.specs.declared.entries.Listed.{Listed}
use Rattle.runner_config.specs.Told.{Told, refused_where}
use Rattle.runner_config.specs.Splitting.{words_of}
use Rattle.runner_config.specs.Counts.{is_broker}
use Rattle.runner_config.specs.Fields.{fields_of}

-- what stands at the only key that stands for this one
abbrev pub sole_at : List ℕ → List Member → Option Data
sole_at key members = if is_doubled (key ∷ []) members then None else option_map (λ m. m.1) (member_at key members)

abbrev pub fields_at : ℕ → Read EntryFields → Told EntryFields
fields_at place (Ok fields) = Ok fields
fields_at place (Err refusal) = Err (BadEntry place)

abbrev pub some_words : ℕ → Option (List (List ℕ)) → Told (List (List ℕ))
some_words place None = Err (UnclosedQuote place)
some_words place (Some []) = Err (MissingExec place)
some_words place (Some (word ∷ words)) = Ok (word ∷ words)

-- the words of `exec`, at least one
abbrev pub words_in : ℕ → Option (List ℕ) → Told (List (List ℕ))
words_in place None = Err (MissingExec place)
words_in place (Some exec) = some_words place (words_of exec)

abbrev pub is_local : Option (List ℕ) → Bool
is_local None = true
is_local (Some host) = bytes_eq host (codes "localhost") || bytes_eq host (codes "127.0.0.1")

-- the path in the words `$self fed PATH`
abbrev pub config_in : List (List ℕ) → Option (List ℕ)
config_in (program ∷ word ∷ path ∷ words) = if bytes_eq program (codes "$self") && bytes_eq word (codes "fed") then Some path else None
config_in words = None

abbrev pub config_of : Option (List ℕ) → List (List ℕ) → Option (List ℕ)
config_of (Some path) words = Some path
config_of None words = config_in words

-- an entry at its place of the list, a broker's too
unfoldable pub entry_of : ℕ → Data → Told Listed
entry_of place value = do
  fields ← fields_at place (fields_of value)
  name ← ok_or fields.name (MissingName place)
  words ← words_in place fields.exec
  host ← refused_where (not (is_local fields.host)) (HostNotLocal place)
  Ok (record {
    place = place;
    name = name;
    words = words;
    directory = unwrap_or fields.directory (codes ".");
    core = fields.core;
    config = config_of fields.config words;
  })

-- an entry that isn't the second broker, where one may have been met before
unfoldable pub single_entry : Bool → ℕ → Data → Told Listed
single_entry met place value = do
  entry ← entry_of place value
  single ← refused_where (met && is_broker entry.words) (TwoBrokers place)
  Ok entry

-- the entries, where one broker may have been met before; the first has this place
unfoldable pub entries_from : Bool → ℕ → Items → Told (List Listed)
entries_from met place no_items = Ok []
entries_from met place (item value more) = do
  entry ← single_entry met place value
  entries ← entries_from (met || is_broker entry.words) (place + 1) more
  Ok (entry ∷ entries)

-- an element of the list is an entry of a broker, whatever else it holds
abbrev pub is_broker_entry : Data → Bool
is_broker_entry value =
    option_map_or is_broker (option_and_then words_of (option_and_then as_str (option_and_then (sole_at (codes "exec")) (object_of value)))) false

abbrev pub has_federate : Items → Bool
has_federate no_items = false
has_federate (item value more) = not (is_broker_entry value) || has_federate more

-- ---- what the code keeps

-- each entry's place is below those of the later ones
abbrev pub AreInOrder : List Listed → Type 0
AreInOrder entries = AllPairs (λ (e later : Listed). e.place < later.place) entries
