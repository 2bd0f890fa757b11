-- A runner file.
use Rattle.std.specs.Prelude.{ℕ, ◌<◌, AllPairs, Bool, false, not, if◌then◌else◌, List, length, map, filter, find, codes, Option, Some, None, option_and_then, unwrap_or, ok_or, Ok, Err, ⊤}
use Rattle.serde_json.specs.Data.{Data, Items}
use Rattle.serde_json.specs.Find.{as_array}
use Rattle.json_reading.specs.Keys.{Member, object_of, json_of}
use Rattle.json_reading.specs.Reading.{◌>>=◌}
use Rattle.federation_plan.specs.declared.tree.Tree.{Tree}
use Rattle.runner_config.specs.declared.refusal.TreeCause.{TreeCause}
use Rattle.runner_config.specs.declared.refusal.TreeCause.TheVariants.{Shape}
use Rattle.runner_config.specs.declared.refusal.RunnerRefusal.TheVariants.{NotJson, NotAnObject, NoFederates, BadTree, BrokerCount}
use Rattle.runner_config.specs.declared.entries.Listed.{Listed}
use Rattle.runner_config.specs.declared.shape.TreeText.{TreeText}
use Rattle.runner_config.specs.declared.reading.Entry.{Entry}
use Rattle.runner_config.specs.declared.reading.Runner.{Runner}
use Rattle.runner_config.specs.Told.{Told, refused_where}
use Rattle.runner_config.specs.Counts.{is_broker, counts_other}
use Rattle.runner_config.specs.Entries.{sole_at, has_federate, entries_from}
use Rattle.runner_config.specs.Shape.{tree_of}
use Rattle.runner_config.specs.Nodes.{names_of, core_of, cause_of, nodes_of}

abbrev pub with_federate : Items → Option Items
with_federate list = if has_federate list then Some list else None

-- the list of federates, which has an entry besides brokers
abbrev pub list_of : List Member → Option Items
list_of members = option_and_then with_federate (option_and_then as_array (sole_at (codes "federates") members))

abbrev pub is_broker_listed : Listed → Bool
is_broker_listed e = is_broker e.words

-- the entries besides the broker
abbrev pub federates_of : List Listed → List Listed
federates_of entries = filter (λ (e : Listed). not (is_broker_listed e)) entries

abbrev pub no_cause : Option TreeCause → Told ⊤
no_cause None = Ok tt
no_cause (Some cause) = Err (BadTree cause)

-- the broker, where there is one, counts so many federates
abbrev pub counted : ℕ → Option Listed → Told ⊤
counted count None = Ok tt
counted count (Some broker) = refused_where (counts_other count broker.words) (BrokerCount broker.place)

abbrev pub check_count : List Listed → Told ⊤
check_count entries = counted (length (federates_of entries)) (find is_broker_listed entries)

-- an entry with its core's number
abbrev pub entry_in : TreeText → Listed → Entry
entry_in t e =
    record {
      name = e.name;
      words = e.words;
      directory = e.directory;
      core = unwrap_or (core_of (names_of t) (length t.brokers) e.core) 0;
      config = e.config;
      place = e.place;
    }

abbrev pub runner_with : TreeText → List Listed → Runner
runner_with t entries = record { nodes = nodes_of t; entries = map (entry_in t) (federates_of entries) }

-- what a runner file says
unfoldable pub runner_in : Data → Told Runner
runner_in value = do
  members ← ok_or (object_of value) NotAnObject
  list ← ok_or (list_of members) NoFederates
  entries ← entries_from false 0 list
  tree ← ok_or (tree_of members) (BadTree Shape)
  fits ← no_cause (cause_of tree entries)
  right ← check_count entries
  Ok (runner_with tree entries)

-- what the bytes of a runner file say, or the first refusal
unfoldable pub runner_of : List ℕ → Told Runner
runner_of bytes = ok_or (json_of bytes) NotJson >>= runner_in

-- the tree with the core of each entry
abbrev pub tree_with : Runner → Tree
tree_with r = record { nodes = r.nodes; cores = map (λ (e : Entry). e.core) r.entries }

-- each entry's place in the file is below those of the later ones
abbrev pub InOrder : List Entry → Type 0
InOrder entries = AllPairs (λ (e later : Entry). e.place < later.place) entries
