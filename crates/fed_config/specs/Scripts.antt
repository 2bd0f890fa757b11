-- The scripts of a federate file.
use Rattle.std.specs.Prelude.{ℕ, zero, suc, ◌+◌, Bool, true, false, List, [], ◌∷◌, map, flat_map, codes, length, nat_lt, if◌then◌else◌, Option, option_map, unwrap_or, ok_or, Result, Ok, Err, ⊤}
use Rattle.serde_json.specs.Data.{Num, Data, number}
use Rattle.helics_time.specs.Time.{max_time}
use Rattle.iteration_rules.specs.declared.Mode.{Mode}
use Rattle.iteration_rules.specs.declared.Mode.TheVariants.{Force, IfNeeded}
use Rattle.interface_names.specs.declared.records.FederateRecord.{FederateRecord}
use Rattle.hel_values.specs.declared.Value.{Value}
use Rattle.std.specs.List.{repeat}
use Rattle.fed_script.specs.Script.{Course}
use Rattle.fed_script.specs.declared.word.Word.{Word}
use Rattle.fed_script.specs.declared.word.Word.TheVariants as words
use Rattle.fed_script.specs.declared.action.Action.{Action}
use Rattle.fed_script.specs.declared.action.Action.TheVariants as actions
use Rattle.json_reading.specs.Keys.{Member, is_doubled}
use Rattle.json_reading.specs.Reading.{Read, ◌>>=◌, here, members_of, optional_at, needed_at, list_of}
use Rattle.json_reading.specs.Leaves.{any_text, text_up_to, time_up_to, whole_between, any_integer}
use Rattle.json_reading.specs.declared.refusal.ConfigCause.{ConfigCause}
use Rattle.json_reading.specs.declared.refusal.ConfigCause.TheVariants.{NotANumber, UnknownWord, DoubledKey, TooManySteps, TooDeep}
use Rattle.fed_config.specs.Words.{word_in}
use Rattle.fed_config.specs.Places.{place_in}
use Rattle.fed_config.specs.Values.{value_of, data_of, failure_of}
use Rattle.fed_config.specs.declared.verbs.Verb.{Verb}
use Rattle.fed_config.specs.declared.verbs.Verb.TheVariants.{Publish, PublishSum, Send, Echo, Request, Advance, Iterate, Finish, Fail, Repeat}

-- ---- limits

-- the most actions of a script, with each repeat written out
abbrev pub most_actions : ℕ
most_actions = 1000000

-- the most times that a body is repeated
abbrev pub most_times : ℕ
most_times = 1000000

-- how deeply repeats may be nested
abbrev pub deepest : ℕ
deepest = 8

-- the most bytes of the destination of a message
abbrev pub longest_destination : ℕ
longest_destination = 1024

-- ---- what a federate's own interfaces are called

pub record Known : Type 0 where
  -- the numbers of publications and endpoints by their names
  pub publications : List ℕ → Option ℕ
  pub endpoints : List ℕ → Option ℕ
  -- how many inputs there are
  pub inputs : ℕ

abbrev pub known_of : FederateRecord → Known
known_of f = record {
  publications = place_in (map (λ p. p.name) f.publications);
  endpoints = place_in (map (λ e. e.name) f.endpoints);
  inputs = length f.inputs;
}

-- ---- what the keys of an action hold

-- the number of an interface by its name
abbrev pub number_by : (List ℕ → Option ℕ) → Data → Read ℕ
number_by numbers value = any_text value >>= λ name. here (ok_or (numbers name) UnknownWord)

abbrev pub place_below : ℕ → Num → Result ℕ ConfigCause
place_below count (Num.unsigned n) = if nat_lt n count then Ok n else Err UnknownWord
place_below count (Num.negative z) = Err UnknownWord
place_below count (Num.float x) = Err NotANumber

-- the number of an input
abbrev pub input_below : ℕ → Data → Read ℕ
input_below count (number n) = here (place_below count n)
input_below count _ = here (Err NotANumber)

abbrev pub modes : List (List ℕ × Mode)
modes = (codes "force", Force) ∷ (codes "if_needed", IfNeeded) ∷ []

-- ---- verbs

abbrev pub verbs : List (List ℕ × Verb)
verbs =
    (codes "publish", Publish)
    ∷ (codes "publish_sum", PublishSum)
    ∷ (codes "send", Send)
    ∷ (codes "echo", Echo)
    ∷ (codes "request", Request)
    ∷ (codes "advance", Advance)
    ∷ (codes "iterate", Iterate)
    ∷ (codes "finish", Finish)
    ∷ (codes "fail", Fail)
    ∷ (codes "repeat", Repeat)
    ∷ []

-- the keys of an action by its verb
abbrev pub keys_of : Verb → List (List ℕ)
keys_of Publish = codes "to" ∷ codes "value" ∷ []
keys_of PublishSum = codes "to" ∷ codes "input" ∷ codes "add" ∷ []
keys_of Send = codes "from" ∷ codes "to" ∷ codes "data" ∷ []
keys_of Echo = codes "from" ∷ []
keys_of Request = codes "time" ∷ []
keys_of Advance = codes "by" ∷ []
keys_of Iterate = codes "time" ∷ codes "mode" ∷ []
keys_of Finish = []
keys_of Fail = codes "text" ∷ []
keys_of Repeat = codes "times" ∷ codes "body" ∷ []

abbrev pub own_keys : Verb → List Member → Result ⊤ ConfigCause
own_keys verb members = if is_doubled (keys_of verb) members then Err DoubledKey else Ok tt

-- the verb of an action, and its members, of which no two stand for one key
abbrev pub head_of : Data → Read (List Member × Verb)
head_of value = do
  members ← members_of (codes "do" ∷ []) value
  verb ← needed_at (codes "do") (word_in verbs) members
  own ← here (own_keys verb members)
  Ok (members, verb)

-- ---- words

-- a publication and a value
abbrev pub publishing_of : Known → List Member → Read (ℕ × Value)
publishing_of known members = do
  publication ← needed_at (codes "to") (number_by known.publications) members
  value ← needed_at (codes "value") value_of members
  Ok (publication, value)

-- an endpoint, a destination, and what is sent there
abbrev pub sending_of : Known → List Member → Read (ℕ × List ℕ × List ℕ)
sending_of known members = do
  endpoint ← needed_at (codes "from") (number_by known.endpoints) members
  destination ← needed_at (codes "to") (text_up_to longest_destination) members
  payload ← needed_at (codes "data") data_of members
  Ok (endpoint, destination, payload)

abbrev pub publish_of : Known → List Member → Read Word
publish_of known members = publishing_of known members >>= λ p. Ok (words.Publish p.0 p.1)

abbrev pub publish_sum_of : Known → List Member → Read Word
publish_sum_of known members = do
  publication ← needed_at (codes "to") (number_by known.publications) members
  input ← needed_at (codes "input") (input_below known.inputs) members
  add ← needed_at (codes "add") any_integer members
  Ok (words.PublishSum publication input add)

abbrev pub send_of : Known → List Member → Read Word
send_of known members = sending_of known members >>= λ s. Ok (words.Send s.0 s.1 s.2)

abbrev pub echo_of : Known → List Member → Read Word
echo_of known members = do
  endpoint ← needed_at (codes "from") (number_by known.endpoints) members
  Ok (words.Echo endpoint)

abbrev pub request_of : List Member → Read Word
request_of members = do
  time ← needed_at (codes "time") (time_up_to max_time) members
  Ok (words.Request time)

abbrev pub advance_of : List Member → Read Word
advance_of members = do
  by ← needed_at (codes "by") (time_up_to max_time) members
  Ok (words.Advance by)

abbrev pub iterate_of : List Member → Read Word
iterate_of members = do
  time ← needed_at (codes "time") (time_up_to max_time) members
  mode ← needed_at (codes "mode") (word_in modes) members
  Ok (words.Iterate time mode)

abbrev pub fail_of : List Member → Read Word
fail_of members = do
  text ← needed_at (codes "text") failure_of members
  Ok (words.Fail text)

-- ---- scripts, with each repeat written out

abbrev pub one : Read Word → Read (List Word)
one read = read >>= λ word. Ok (word ∷ [])

-- a repeat, by the way to read its body; at the deepest level there may be none
abbrev pub repeat_of : Bool → (Data → Read (List Word)) → List Member → Read (List Word)
repeat_of false body members = here (Err TooDeep)
repeat_of true body members = do
  times ← needed_at (codes "times") (whole_between 0 most_times) members
  repeated ← needed_at (codes "body") body members
  Ok (repeat times repeated)

-- the words of an action by its verb; may says whether a repeat may stand here, and body how its body is read
abbrev pub words_of : Known → Bool → (Data → Read (List Word)) → List Member → Verb → Read (List Word)
words_of known may body members Publish = one (publish_of known members)
words_of known may body members PublishSum = one (publish_sum_of known members)
words_of known may body members Send = one (send_of known members)
words_of known may body members Echo = one (echo_of known members)
words_of known may body members Request = one (request_of members)
words_of known may body members Advance = one (advance_of members)
words_of known may body members Iterate = one (iterate_of members)
words_of known may body members Finish = Ok (words.Finish ∷ [])
words_of known may body members Fail = one (fail_of members)
words_of known may body members Repeat = repeat_of may body members

unfoldable pub action_of : Known → Bool → (Data → Read (List Word)) → Data → Read (List Word)
action_of known may body value = head_of value >>= λ h. words_of known may body h.0 h.1

-- the words of actions, one after another
abbrev pub joined : Read (List (List Word)) → Read (List Word)
joined read = read >>= λ parts. Ok (flat_map (λ part. part) parts)

-- the words of a list of actions
abbrev pub words_in : (Data → Read (List Word)) → Data → Read (List Word)
words_in read value = joined (list_of read value)

-- a list of actions, in which repeats are nested less deeply than this
unfoldable pub body_of : Known → ℕ → Data → Read (List Word)
body_of known zero value = Ok []
body_of known (suc left) value = words_in (action_of known (nat_lt 0 left) (body_of known left)) value

abbrev pub few_words : List Word → Read (List Word)
few_words script = if nat_lt most_actions (length script) then here (Err TooManySteps) else Ok script

unfoldable pub script_words : Known → Data → Read (List Word)
script_words known value = body_of known (deepest + 1) value >>= few_words

-- ---- actions before a federate enters

abbrev pub not_allowed : List Member → Read Action
not_allowed members = needed_at (codes "do") (λ value. here (Err UnknownWord)) members

abbrev pub initial_by : Known → List Member → Verb → Read Action
initial_by known members Publish = publishing_of known members >>= λ p. Ok (actions.Publish p.0 p.1)
initial_by known members Send = sending_of known members >>= λ s. Ok (actions.Send s.0 s.1 s.2)
initial_by known members _ = not_allowed members

unfoldable pub initial_of : Known → Data → Read Action
initial_of known value = head_of value >>= λ h. initial_by known h.0 h.1

-- ---- both

abbrev pub course : List Action → List Word → Course
course initial script = record { initial = initial; words = script }

-- the script of a file, where it has one
unfoldable pub script_of : Known → List Member → Read (Option Course)
script_of known members = do
  initial ← optional_at (codes "initial") (list_of (initial_of known)) members
  script ← optional_at (codes "script") (script_words known) members
  Ok (option_map (course (unwrap_or initial [])) script)
