-- The publications, inputs and endpoints of a federate file.
use Rattle.std.specs.Prelude.{ℕ, false, List, [], ◌∷◌, codes, None, unwrap_or, Ok}
use Rattle.serde_json.specs.Data.{Data}
use Rattle.interface_names.specs.declared.records.PubRecord.{PubRecord}
use Rattle.interface_names.specs.declared.records.InputRecord.{InputRecord}
use Rattle.interface_names.specs.declared.records.EndRecord.{EndRecord}
use Rattle.json_reading.specs.Reading.{Read, ◌>>=◌, members_of, optional_at, needed_at, optional_either_at, needed_either_at}
use Rattle.json_reading.specs.Leaves.{any_text, true_or_false, texts_in}
use Rattle.fed_config.specs.Words.{word_in, kinds, input_kinds}

abbrev pub publication_keys : List (List ℕ)
publication_keys = codes "key" ∷ codes "name" ∷ codes "global" ∷ codes "type" ∷ []

unfoldable pub publication_of : Data → Read PubRecord
publication_of value = do
  members ← members_of publication_keys value
  name ← needed_either_at (codes "key") (codes "name") any_text members
  global ← optional_at (codes "global") true_or_false members
  kind ← needed_at (codes "type") (word_in kinds) members
  Ok (record { name = name; global = unwrap_or global false; kind = kind })

abbrev pub subscription_keys : List (List ℕ)
subscription_keys = codes "key" ∷ codes "name" ∷ codes "type" ∷ codes "required" ∷ []

-- a subscription is an input without a name, which targets one publication
unfoldable pub subscription_of : Data → Read InputRecord
subscription_of value = do
  members ← members_of subscription_keys value
  target ← needed_either_at (codes "key") (codes "name") any_text members
  kind ← optional_at (codes "type") (word_in input_kinds) members
  required ← optional_at (codes "required") true_or_false members
  Ok (record { name = None; global = false; kind = unwrap_or kind None; targets = target ∷ []; required = unwrap_or required false })

abbrev pub input_keys : List (List ℕ)
input_keys = codes "key" ∷ codes "name" ∷ codes "global" ∷ codes "type" ∷ codes "required" ∷ codes "targets" ∷ []

unfoldable pub input_of : Data → Read InputRecord
input_of value = do
  members ← members_of input_keys value
  name ← optional_either_at (codes "key") (codes "name") any_text members
  global ← optional_at (codes "global") true_or_false members
  kind ← optional_at (codes "type") (word_in input_kinds) members
  required ← optional_at (codes "required") true_or_false members
  targets ← optional_at (codes "targets") texts_in members
  Ok (record { name = name; global = unwrap_or global false; kind = unwrap_or kind None; targets = unwrap_or targets []; required = unwrap_or required false })

abbrev pub endpoint_keys : List (List ℕ)
endpoint_keys =
    codes "name" ∷ codes "key" ∷ codes "global" ∷ codes "targeted" ∷ codes "destination" ∷ codes "destinationtargets" ∷ codes "sourcetargets" ∷ []

unfoldable pub endpoint_of : Data → Read EndRecord
endpoint_of value = do
  members ← members_of endpoint_keys value
  name ← needed_either_at (codes "name") (codes "key") any_text members
  global ← optional_at (codes "global") true_or_false members
  targeted ← optional_at (codes "targeted") true_or_false members
  destination ← optional_at (codes "destination") any_text members
  destination_targets ← optional_at (codes "destinationtargets") texts_in members
  source_targets ← optional_at (codes "sourcetargets") texts_in members
  Ok (record {
    name = name;
    global = unwrap_or global false;
    targeted = unwrap_or targeted false;
    default_destination = destination;
    destination_targets = unwrap_or destination_targets [];
    source_targets = unwrap_or source_targets [];
  })
