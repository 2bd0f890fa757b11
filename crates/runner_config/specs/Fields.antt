-- What stands at the keys of an entry.
use Rattle.std.specs.Prelude.{ℕ, List, [], ◌∷◌, codes, Ok}
use Rattle.serde_json.specs.Data.{Data}
use Rattle.json_reading.specs.Reading.{Read, ◌>>=◌, members_of, optional_at}
use Rattle.json_reading.specs.Leaves.{any_text}
use Rattle.runner_config.specs.declared.entries.EntryFields.{EntryFields}

abbrev pub entry_keys : List (List ℕ)
entry_keys = codes "name" ∷ codes "exec" ∷ codes "directory" ∷ codes "host" ∷ codes "core" ∷ codes "config" ∷ []

-- an object with texts at these keys, no key twice
unfoldable pub fields_of : Data → Read EntryFields
fields_of value = do
  members ← members_of entry_keys value
  name ← optional_at (codes "name") any_text members
  exec ← optional_at (codes "exec") any_text members
  directory ← optional_at (codes "directory") any_text members
  host ← optional_at (codes "host") any_text members
  core ← optional_at (codes "core") any_text members
  config ← optional_at (codes "config") any_text members
  Ok (record { name = name; exec = exec; directory = directory; host = host; core = core; config = config })
