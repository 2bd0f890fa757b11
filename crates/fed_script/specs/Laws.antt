-- What scripts give, one action after another.
use Rattle.std.specs.Prelude.{ℕ, zero, suc, ◌+◌, ◌<◌, ◌≡◌, ◌≢◌, ◌⊎◌, false, unwrap_or, List, [], ◌∷◌, ◌++◌, map, length, slice_set, sum_by}
use Rattle.std.specs.List.{AllByRecursion}
use Rattle.fed_script.specs.declared.action.Action.{Action}
use Rattle.fed_script.specs.declared.action.Action.TheVariants.{Finish as finishes}
use Rattle.fed_script.specs.declared.word.Word.{Word}
use Rattle.fed_script.specs.declared.word.Word.TheVariants.{Echo}
use Rattle.fed_script.specs.View.{Sight, letters_at}
use Rattle.fed_script.specs.Script.{action_of, answer_to, is_echo, next_action, words_after, view_after}

abbrev pub HasNoEcho : List Word → Type 0
HasNoEcho words = AllByRecursion (λ word. is_echo word ≡ false) words

-- the actions that calls give one after another, each over the view given there
abbrev pub actions_over : List Word → List Sight → List Action
actions_over words [] = []
actions_over words (v ∷ views) = next_action words v ∷ actions_over (words_after words v) views

-- what each word gives over the view in its turn, and Finish ever after
abbrev pub each_in_turn : List Word → List Sight → List Action
each_in_turn words [] = []
each_in_turn [] (v ∷ views) = finishes ∷ each_in_turn [] views
each_in_turn (word ∷ words) (v ∷ views) = unwrap_or (action_of v word) finishes ∷ each_in_turn words views

-- Without echoes the actions of a script are those of its words with each repeat written out, one after another.
abbrev pub WordsInTurn : Type 0
WordsInTurn = (words : List Word) (views : List Sight) → HasNoEcho words → actions_over words views ≡ each_in_turn words views

-- so many actions with no grant between
abbrev pub actions_from : ℕ → List Word → Sight → List Action
actions_from zero words v = []
actions_from (suc n) words v = next_action words v ∷ actions_from n (words_after words v) (view_after words v)

-- the inbox of an endpoint has no letter left
abbrev pub emptied : Sight → ℕ → Sight
emptied v endpoint = record v { inboxes = slice_set v.inboxes endpoint [] }

-- An echo answers each letter of its inbox, the oldest first, and then the script goes on as if there were no echo.
abbrev pub EchoAnswers : Type 0
EchoAnswers = (n endpoint : ℕ) (words : List Word) (v : Sight) →
    actions_from (length (letters_at v endpoint) + n) (Echo endpoint ∷ words) v
    ≡ map (answer_to endpoint) (letters_at v endpoint) ++ actions_from n words (emptied v endpoint)

abbrev pub letters_left : Sight → ℕ
letters_left v = sum_by length v.inboxes

-- Each action that passes leaves fewer words, or it is an echo's answer, and the words stay and a letter less is left.
abbrev pub Progresses : Type 0
Progresses = (words : List Word) (v : Sight) → words ≢ [] →
    (length (words_after words v) < length words) ⊎ ((words_after words v ≡ words) × (letters_left (view_after words v) + 1 ≡ letters_left v))
