-- What a script gives over what its federate sees.
use Rattle.std.specs.Prelude.{ℕ, ◌+◌, ◌≤◌, min, ◌+ℤ◌, Bool, true, false, if◌then◌else◌, Option, Some, is_some, unwrap_or, option_map, slice_get, List, [], ◌∷◌}
use Rattle.std.specs.Int.{w64, saturate_signed}
use Rattle.std.specs.List.{AllByRecursion}
use Rattle.helics_time.specs.Time.{max_time}
use Rattle.hel_values.specs.declared.Value.TheVariants.{Int}
use Rattle.endpoint_messages.specs.declared.Letter.{Letter}
use Rattle.iteration_rules.specs.declared.Mode.TheVariants.{Next}
use Rattle.fed_script.specs.declared.action.Action.{Action}
use Rattle.fed_script.specs.declared.action.Action.TheVariants.{Publish as publishes, Send as sends, Request as requests, Finish as finishes, Fail as fails}
use Rattle.fed_script.specs.declared.word.Word.{Word}
use Rattle.fed_script.specs.declared.word.Word.TheVariants.{Publish, PublishSum, Send, Echo, Request, Advance, Iterate, Finish, Fail}
use Rattle.fed_script.specs.View.{Sight, integer_at, letters_at, taken}

-- what is left of a script
pub record Course : Type 0 where
  -- the actions before the federate enters
  pub initial : List Action
  -- the words after, with each repeat written out
  pub words : List Word

-- a letter's payload goes back to its source
abbrev pub answer_to : ℕ → Letter → Action
answer_to endpoint letter = sends endpoint letter.source letter.payload

-- the answer to the oldest letter, if there is one
abbrev pub echo_of : ℕ → List Letter → Option Action
echo_of endpoint letters = option_map (answer_to endpoint) (slice_get letters 0)

-- what a word gives: an echo of an empty inbox gives nothing
abbrev pub action_of : Sight → Word → Option Action
action_of v (Publish publication value) = Some (publishes publication value)
action_of v (PublishSum publication input add) = Some (publishes publication (Int (saturate_signed w64 (integer_at v input +ℤ add))))
action_of v (Send endpoint destination payload) = Some (sends endpoint destination payload)
action_of v (Echo endpoint) = echo_of endpoint (letters_at v endpoint)
action_of v (Request time) = Some (requests time Next)
action_of v (Advance by) = Some (requests (min (v.time + by) max_time) Next)
action_of v (Iterate time mode) = Some (requests time mode)
action_of v Finish = Some finishes
action_of v (Fail text) = Some (fails text)

abbrev pub gives : Sight → Word → Bool
gives v word = is_some (action_of v word)

-- the words that are left once those that give nothing are passed
abbrev pub given_from : List Word → Sight → List Word
given_from [] v = []
given_from (word ∷ words) v = if gives v word then word ∷ words else given_from words v

-- what the first of them gives: at the end, and ever after, the federate finishes
abbrev pub first_action : List Word → Sight → Action
first_action [] v = finishes
first_action (word ∷ words) v = unwrap_or (action_of v word) finishes

-- what a script with these words left gives next
abbrev pub next_action : List Word → Sight → Action
next_action words v = first_action (given_from words v) v

-- what is left behind a word that gave something: an echo stays as long as it gives
abbrev pub behind : Word → List Word → List Word
behind (Echo endpoint) words = Echo endpoint ∷ words
behind word words = words

abbrev pub behind_first : List Word → List Word
behind_first [] = []
behind_first (word ∷ words) = behind word words

-- what is left once the next action has passed
abbrev pub words_after : List Word → Sight → List Word
words_after words v = behind_first (given_from words v)

-- an echo takes the letter that it answered
abbrev pub seen_after : Sight → List Word → Sight
seen_after v (Echo endpoint ∷ words) = taken v endpoint
seen_after v words = v

-- what is seen then
abbrev pub view_after : List Word → Sight → Sight
view_after words v = seen_after v (given_from words v)

abbrev pub is_echo : Word → Bool
is_echo (Echo endpoint) = true
is_echo word = false

abbrev pub echo_first : List Word → Bool
echo_first [] = false
echo_first (word ∷ words) = is_echo word

-- what a script with these words left gives next is the answer to a letter
abbrev pub answers : List Word → Sight → Bool
answers words v = echo_first (given_from words v)

-- before a federate enters, it publishes and sends
abbrev pub IsInitial : List Action → Type 0
IsInitial [] = Unit {0}
IsInitial (publishes publication value ∷ actions) = IsInitial actions
IsInitial (sends endpoint destination payload ∷ actions) = IsInitial actions
IsInitial (action ∷ actions) = ⊥

-- the times that an action asks for are times
abbrev pub HasTime : Action → Type 0
HasTime (requests time mode) = time ≤ max_time
HasTime action = Unit {0}

-- the times that words name are times
abbrev pub NamesTime : Word → Type 0
NamesTime (Request time) = time ≤ max_time
NamesTime (Iterate time mode) = time ≤ max_time
NamesTime word = Unit {0}

abbrev pub KeepTimes : List Word → Type 0
KeepTimes words = AllByRecursion NamesTime words

-- what every script keeps
pub record IsCourse (c : Course) : Type 0 where
  pub initial : IsInitial c.initial
  pub times : KeepTimes c.words
