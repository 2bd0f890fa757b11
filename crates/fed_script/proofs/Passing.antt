-- What is left of a script once an action has passed.
use Rattle.std.proofs.Common.{ℕ, zero, suc, ◌≡◌, refl, ap, sym, ◌∙◌, arith, true, false, inl, inr, List, [], ◌∷◌, ◌++◌, drop, Some, None}
use Rattle.std.specs.Prelude.{find, slice_get, unwrap_or}
use Rattle.std.proofs.lemmas.Bool.{cases_Bool}
use Rattle.std.proofs.lemmas.Option.{none-some, same_Some}
use Rattle.fed_script.specs.declared.action.Action.{Action}
use Rattle.fed_script.specs.declared.action.Action.TheVariants.{Publish as publishes, Send as sends, Request as requests, Finish as finishes, Fail as fails}
use Rattle.fed_script.specs.declared.word.Word.{Word}
use Rattle.fed_script.specs.declared.word.Word.TheVariants.{Publish, PublishSum, Send, Echo, Request, Advance, Iterate, Finish, Fail}
use Rattle.endpoint_messages.specs.declared.Letter.{Letter}
use Rattle.std.specs.List.{repeat}
use Rattle.fed_script.specs.View.{Sight, letters_at}
use Rattle.fed_script.specs.Script.{IsInitial, HasTime, NamesTime, KeepTimes, action_of, echo_of, gives, given_from, first_action, next_action, behind, behind_first, words_after, is_echo, echo_first, answers}

pub is_initial_after : (actions : List Action) → IsInitial actions → IsInitial (drop 1 actions)
is_initial_after [] is = tt
is_initial_after (publishes publication value ∷ actions) is = is
is_initial_after (sends endpoint destination payload ∷ actions) is = is
is_initial_after (requests time mode ∷ actions) is = absurd is
is_initial_after (finishes ∷ actions) is = absurd is
is_initial_after (fails text ∷ actions) is = absurd is

-- where the first word gives something, all are left
pub given_first : (words : List Word) (word : Word) (v : Sight) → slice_get words 0 ≡ Some word → gives v word ≡ true → words ≡ given_from words v
given_first [] word v first given = absurd (none-some word first)
given_first (w ∷ words) word v first given =
    let here : gives v w ≡ true = ap (gives v) (same_Some w word first) ∙ given in
    rw here refl

-- the first word that gives something is the first of those left
pub find_given : (words : List Word) (v : Sight) → find (gives v) words ≡ slice_get (given_from words v) 0
find_given [] v = refl
find_given (word ∷ words) v = elim (cases_Bool (gives v word)) [
  | inl given ↦ rw given refl
  | inr idle ↦ rw idle (find_given words v)
]

pub next_none : (words : List Word) (v : Sight) → slice_get (given_from words v) 0 ≡ None → next_action words v ≡ finishes
next_none words v none = go (given_from words v) none where
  go : (given : List Word) → slice_get given 0 ≡ None → first_action given v ≡ finishes
  go [] is = refl
  go (word ∷ given) is = absurd (none-some word (sym is))

pub next_some : (words : List Word) (v : Sight) (word : Word) → slice_get (given_from words v) 0 ≡ Some word → next_action words v ≡ unwrap_or (action_of v word) finishes
next_some words v word some = go (given_from words v) some where
  go : (given : List Word) → slice_get given 0 ≡ Some word → first_action given v ≡ unwrap_or (action_of v word) finishes
  go [] is = absurd (none-some word is)
  go (w ∷ given) is = ap (λ x. unwrap_or (action_of v x) finishes) (same_Some w word is)

-- the next action answers a letter where the first word that gives something is an echo
pub answers_none : (words : List Word) (v : Sight) → slice_get (given_from words v) 0 ≡ None → answers words v ≡ false
answers_none words v none = go (given_from words v) none where
  go : (given : List Word) → slice_get given 0 ≡ None → echo_first given ≡ false
  go [] is = refl
  go (word ∷ given) is = absurd (none-some word (sym is))

pub answers_some : (words : List Word) (v : Sight) (word : Word) → slice_get (given_from words v) 0 ≡ Some word → answers words v ≡ is_echo word
answers_some words v word some = go (given_from words v) some where
  go : (given : List Word) → slice_get given 0 ≡ Some word → echo_first given ≡ is_echo word
  go [] is = absurd (none-some word is)
  go (w ∷ given) is = ap is_echo (same_Some w word is)

-- what comes of words that keep times
pub given_keep_times : (words : List Word) (v : Sight) → KeepTimes words → KeepTimes (given_from words v)
given_keep_times [] v keep = tt
given_keep_times (word ∷ words) v keep = elim (cases_Bool (gives v word)) [
  | inl given ↦ rw given keep
  | inr idle ↦ rw idle (given_keep_times words v keep.1)
]

echo_has_time : (endpoint : ℕ) (letters : List Letter) → HasTime (unwrap_or (echo_of endpoint letters) finishes)
echo_has_time endpoint [] = tt
echo_has_time endpoint (letter ∷ letters) = tt

word_has_time : (v : Sight) (word : Word) → NamesTime word → HasTime (unwrap_or (action_of v word) finishes)
word_has_time v (Publish publication value) names = tt
word_has_time v (PublishSum publication input add) names = tt
word_has_time v (Send endpoint destination payload) names = tt
word_has_time v (Echo endpoint) names = echo_has_time endpoint (letters_at v endpoint)
word_has_time v (Request time) names = names
word_has_time v (Advance by) names = omega arith
word_has_time v (Iterate time mode) names = names
word_has_time v Finish names = tt
word_has_time v (Fail text) names = tt

pub next_has_time : (words : List Word) (v : Sight) → KeepTimes words → HasTime (next_action words v)
next_has_time words v keep = go (given_from words v) (given_keep_times words v keep) where
  go : (given : List Word) → KeepTimes given → HasTime (first_action given v)
  go [] times = tt
  go (word ∷ given) times = word_has_time v word times.0

behind_keep_times : (word : Word) (words : List Word) → NamesTime word → KeepTimes words → KeepTimes (behind word words)
behind_keep_times (Publish publication value) words names keep = keep
behind_keep_times (PublishSum publication input add) words names keep = keep
behind_keep_times (Send endpoint destination payload) words names keep = keep
behind_keep_times (Echo endpoint) words names keep = (names, keep)
behind_keep_times (Request time) words names keep = keep
behind_keep_times (Advance by) words names keep = keep
behind_keep_times (Iterate time mode) words names keep = keep
behind_keep_times Finish words names keep = keep
behind_keep_times (Fail text) words names keep = keep

pub keep_times_after : (words : List Word) (v : Sight) → KeepTimes words → KeepTimes (words_after words v)
keep_times_after words v keep = go (given_from words v) (given_keep_times words v keep) where
  go : (given : List Word) → KeepTimes given → KeepTimes (behind_first given)
  go [] times = tt
  go (word ∷ given) times = behind_keep_times word given times.0 times.1

-- lists of words that keep times, one behind another
pub keep_times_append : (some more : List Word) → KeepTimes some → KeepTimes more → KeepTimes (some ++ more)
keep_times_append [] more keep keeps = keeps
keep_times_append (word ∷ some) more keep keeps = (keep.0, keep_times_append some more keep.1 keeps)

pub keep_times_copies : (n : ℕ) (words : List Word) → KeepTimes words → KeepTimes (repeat n words)
keep_times_copies zero words keep = tt
keep_times_copies (suc n) words keep = keep_times_append words (repeat n words) keep (keep_times_copies n words keep)
