-- A federate file.
use Rattle.std.specs.Prelude.{◌≡◌, ℕ, ◌⊎◌, false, List, [], ◌∷◌, ◌++◌, codes, Option, Some, None, is_some, unwrap_or, Result, Ok, Err}
use Rattle.serde_json.specs.Data.{Data}
use Rattle.helics_time.specs.Time.{longest_span}
use Rattle.helics_time.specs.Settings.{Terms}
use Rattle.interface_names.specs.declared.records.InputRecord.{InputRecord}
use Rattle.interface_names.specs.declared.records.FederateRecord.{FederateRecord}
use Rattle.json_reading.specs.Keys.{Member, json_of}
use Rattle.json_reading.specs.Reading.{Read, ◌>>=◌, refused, members_of, optional_at, list_up_to, no_memory}
use Rattle.json_reading.specs.Leaves.{text_up_to, true_or_false, time_up_to, whole_between}
use Rattle.json_reading.specs.declared.refusal.ConfigRefusal.{ConfigRefusal}
use Rattle.json_reading.specs.declared.refusal.ConfigCause.TheVariants.{NotJson}
use Rattle.fed_config.specs.Interfaces.{publication_of, subscription_of, input_of, endpoint_of}
use Rattle.fed_config.specs.Filters.{filter_of}
use Rattle.fed_config.specs.Scripts.{known_of, script_of}
use Rattle.fed_config.specs.declared.config.FederateConfig.{FederateConfig}

-- ---- limits

-- the most bytes of a federate's name
abbrev pub longest_federate_name : ℕ
longest_federate_name = 1024

-- the most items of a list of interfaces
abbrev pub most_items : ℕ
most_items = 32768

-- ---- the parts of a file

-- a time of the settings, and 0 without it
abbrev pub setting_at : List ℕ → List Member → Read ℕ
setting_at key members = optional_at key (time_up_to longest_span) members >>= λ found. Ok (unwrap_or found 0)

abbrev pub iterations_at : List ℕ → List Member → Read ℕ
iterations_at key members = optional_at key (whole_between 1 10000) members >>= λ found. Ok (unwrap_or found 50)

unfoldable pub settings_of : List Member → Read Terms
settings_of members = do
  period ← setting_at (codes "period") members
  offset ← setting_at (codes "offset") members
  time_delta ← setting_at (codes "timedelta") members
  input_delay ← setting_at (codes "inputdelay") members
  output_delay ← setting_at (codes "outputdelay") members
  uninterruptible ← optional_at (codes "uninterruptible") true_or_false members
  wait ← optional_at (codes "waitforcurrenttimeupdate") true_or_false members
  max_iterations ← iterations_at (codes "maxiterations") members
  Ok (record {
    period = period;
    offset = offset;
    time_delta = time_delta;
    input_delay = input_delay;
    output_delay = output_delay;
    uninterruptible = unwrap_or uninterruptible false;
    wait = unwrap_or wait false;
    max_iterations = max_iterations;
  })

-- the list at a key, and no items without it
abbrev pub list_at : {A : Type 0} → List ℕ → (Data → Read A) → List Member → Read (List A)
list_at key read members = optional_at key (list_up_to most_items read) members >>= λ found. Ok (unwrap_or found [])

-- subscriptions come first among the inputs
unfoldable pub inputs_of : List Member → Read (List InputRecord)
inputs_of members = do
  subscriptions ← list_at (codes "subscriptions") subscription_of members
  inputs ← list_at (codes "inputs") input_of members
  Ok (subscriptions ++ inputs)

-- a federate of this name, by the other members of its file
unfoldable pub record_of : List ℕ → List Member → Read FederateRecord
record_of name members = do
  settings ← settings_of members
  publications ← list_at (codes "publications") publication_of members
  inputs ← inputs_of members
  endpoints ← list_at (codes "endpoints") endpoint_of members
  filters ← list_at (codes "filters") filter_of members
  Ok (record {
    name = name;
    settings = settings;
    publications = publications;
    inputs = inputs;
    endpoints = endpoints;
    filters = filters;
  })

-- ---- the file

abbrev pub federate_keys : List (List ℕ)
federate_keys =
    codes "name" ∷ codes "period" ∷ codes "offset" ∷ codes "timedelta" ∷ codes "inputdelay" ∷ codes "outputdelay"
    ∷ codes "uninterruptible" ∷ codes "waitforcurrenttimeupdate" ∷ codes "maxiterations"
    ∷ codes "publications" ∷ codes "subscriptions" ∷ codes "inputs" ∷ codes "endpoints" ∷ codes "filters" ∷ codes "initial"
    ∷ codes "script" ∷ []

-- what a federate file says, with places below the file
unfoldable pub federate_of : Data → Read FederateConfig
federate_of value = do
  members ← members_of federate_keys value
  name ← optional_at (codes "name") (text_up_to longest_federate_name) members
  federate ← record_of (unwrap_or name []) members
  script ← script_of (known_of federate) members
  Ok (record { federate = federate; named = is_some name; script = script })

-- the place of the whole file is `/`
abbrev pub whole_path : List ℕ → List ℕ
whole_path [] = codes "/"
whole_path (c ∷ cs) = c ∷ cs

abbrev pub in_file : {A : Type 0} → Read A → Read A
in_file (Ok x) = Ok x
in_file (Err e) = Err (refused (whole_path e.path) e.cause)

abbrev pub config_in : Option Data → Read FederateConfig
config_in None = in_file (Err (refused [] NotJson))
config_in (Some value) = in_file (federate_of value)

-- what the bytes of a federate file say, or the first refusal
unfoldable pub config_of : List ℕ → Read FederateConfig
config_of bytes = config_in (json_of bytes)

-- the code answers so, or memory was wanting
abbrev pub Answers : {A : Type 0} → Result A ConfigRefusal → Read A → Type 0
Answers result read = (result ≡ Err no_memory) ⊎ (result ≡ read)
