-- Scripts one action after another.
use Rattle.std.proofs.Common.{ℕ, zero, suc, ◌+◌, ◌<◌, ◌≤◌, ◌≡◌, ◌⊎◌, refl, ap, sym, subst, ◌∙◌, true, inl, inr, List, [], ◌∷◌, ◌++◌, map, length, get_or, drop, arith}
use Rattle.std.specs.Prelude.{slice_set, sum_by, is_some, unwrap_or}
use Rattle.std.proofs.lemmas.Bool.{cases_Bool, false≢true}
use Rattle.std.proofs.lemmas.List.{get_or-set_same, set-set, set-get_or}
use Rattle.std.proofs.lemmas.List.Sums.{sum_by-cons}
use Rattle.endpoint_messages.specs.declared.Letter.{Letter}
use Rattle.fed_script.specs.declared.action.Action.{Action}
use Rattle.fed_script.specs.declared.action.Action.TheVariants.{Finish as finishes}
use Rattle.fed_script.specs.declared.word.Word.{Word}
use Rattle.fed_script.specs.declared.word.Word.TheVariants.{Publish, PublishSum, Send, Echo, Request, Advance, Iterate, Finish, Fail}
use Rattle.fed_script.specs.View.{Sight, letters_at, taken}
use Rattle.fed_script.specs.Script.{echo_of, answer_to, gives, given_from, first_action, next_action, behind, behind_first, words_after, seen_after, view_after}
use Rattle.fed_script.specs.Laws.{actions_over, each_in_turn, WordsInTurn, actions_from, emptied, EchoAnswers, letters_left, Progresses}

-- at its end a script finishes ever after
ended : (views : List Sight) → actions_over [] views ≡ each_in_turn [] views
ended [] = refl
ended (v ∷ views) = ap (λ (acts : List Action). finishes ∷ acts) (ended views)

pub words_in_turn : WordsInTurn
words_in_turn words [] none = refl
words_in_turn [] (v ∷ views) none = ended (v ∷ views)
words_in_turn (Echo endpoint ∷ words) (v ∷ views) none = absurd (false≢true (sym none.0))
words_in_turn (Publish publication value ∷ words) (v ∷ views) none = ap (λ (acts : List Action). first_action (Publish publication value ∷ words) v ∷ acts) (words_in_turn words views none.1)
words_in_turn (PublishSum publication input add ∷ words) (v ∷ views) none = ap (λ (acts : List Action). first_action (PublishSum publication input add ∷ words) v ∷ acts) (words_in_turn words views none.1)
words_in_turn (Send endpoint destination payload ∷ words) (v ∷ views) none = ap (λ (acts : List Action). first_action (Send endpoint destination payload ∷ words) v ∷ acts) (words_in_turn words views none.1)
words_in_turn (Request time ∷ words) (v ∷ views) none = ap (λ (acts : List Action). first_action (Request time ∷ words) v ∷ acts) (words_in_turn words views none.1)
words_in_turn (Advance by ∷ words) (v ∷ views) none = ap (λ (acts : List Action). first_action (Advance by ∷ words) v ∷ acts) (words_in_turn words views none.1)
words_in_turn (Iterate time mode ∷ words) (v ∷ views) none = ap (λ (acts : List Action). first_action (Iterate time mode ∷ words) v ∷ acts) (words_in_turn words views none.1)
words_in_turn (Finish ∷ words) (v ∷ views) none = ap (λ (acts : List Action). first_action (Finish ∷ words) v ∷ acts) (words_in_turn words views none.1)
words_in_turn (Fail text ∷ words) (v ∷ views) none = ap (λ (acts : List Action). first_action (Fail text ∷ words) v ∷ acts) (words_in_turn words views none.1)

-- what calls give and leave depends on the words that give something alone
from_given : (n : ℕ) (some more : List Word) (v : Sight) → given_from some v ≡ given_from more v → actions_from n some v ≡ actions_from n more v
from_given zero some more v same = refl
from_given (suc n) some more v same = ap (λ (ws : List Word). first_action ws v ∷ actions_from n (behind_first ws) (seen_after v ws)) same

-- an echo of an empty inbox is passed
idle_echo : (endpoint : ℕ) (words : List Word) (v : Sight) → letters_at v endpoint ≡ [] → given_from (Echo endpoint ∷ words) v ≡ given_from words v
idle_echo endpoint words v none = rw none refl

-- one of an inbox with letters stays
busy_echo : (endpoint : ℕ) (words : List Word) (v : Sight) (letter : Letter) (letters : List Letter) → letters_at v endpoint ≡ letter ∷ letters → given_from (Echo endpoint ∷ words) v ≡ Echo endpoint ∷ words
busy_echo endpoint words v letter letters some = rw some refl

-- an inbox with letters is there
inbox_is_there : (inboxes : List (List Letter)) (n : ℕ) (letter : Letter) (letters : List Letter) → get_or inboxes n [] ≡ letter ∷ letters → n < length inboxes
inbox_is_there [] n letter letters some = cc
inbox_is_there (inbox ∷ inboxes) zero letter letters some = omega arith
inbox_is_there (inbox ∷ inboxes) (suc n) letter letters some = let within = inbox_is_there inboxes n letter letters some in omega arith

emptied_at : (v : Sight) (endpoint : ℕ) → letters_at v endpoint ≡ [] → emptied v endpoint ≡ v
emptied_at v endpoint none =
    let with : List (List Letter) → Sight = λ inboxes. record v { inboxes = inboxes } in
    ap (λ (ls : List Letter). with (slice_set v.inboxes endpoint ls)) (sym none) ∙ ap with (set-get_or v.inboxes endpoint [])

answers : (letters : List Letter) (n endpoint : ℕ) (words : List Word) (v : Sight) → letters_at v endpoint ≡ letters
    → actions_from (length letters + n) (Echo endpoint ∷ words) v ≡ map (answer_to endpoint) letters ++ actions_from n words (emptied v endpoint)
answers [] n endpoint words v none =
    let same : 0 + n ≡ n = omega arith in
    ap (λ k. actions_from k (Echo endpoint ∷ words) v) same
    ∙ from_given n (Echo endpoint ∷ words) words v (idle_echo endpoint words v none)
    ∙ ap (actions_from n words) (sym (emptied_at v endpoint none))
answers (letter ∷ letters) n endpoint words v some =
    let more : suc (length letters) + n ≡ suc (length letters + n) = omega arith in
    let with : List (List Letter) → Sight = λ inboxes. record v { inboxes = inboxes } in
    let rest : drop 1 (letters_at v endpoint) ≡ letters = ap (drop 1) some in
    let within = inbox_is_there v.inboxes endpoint letter letters some in
    let left : letters_at (taken v endpoint) endpoint ≡ letters = get_or-set_same v.inboxes endpoint (drop 1 (letters_at v endpoint)) [] within ∙ rest in
    let first : next_action (Echo endpoint ∷ words) v ≡ answer_to endpoint letter =
    ap (λ (ws : List Word). first_action ws v) (busy_echo endpoint words v letter letters some) ∙ ap (λ ls. unwrap_or (echo_of endpoint ls) finishes) some in
    let later : actions_from (length letters + n) (words_after (Echo endpoint ∷ words) v) (view_after (Echo endpoint ∷ words) v) ≡ actions_from (length letters + n) (Echo endpoint ∷ words) (taken v endpoint) =
    ap (λ (ws : List Word). actions_from (length letters + n) (behind_first ws) (seen_after v ws)) (busy_echo endpoint words v letter letters some) in
    let none : emptied (taken v endpoint) endpoint ≡ emptied v endpoint = ap with (set-set v.inboxes endpoint (drop 1 (letters_at v endpoint)) []) in
    ap (λ k. actions_from k (Echo endpoint ∷ words) v) more
    ∙ ap (λ a. a ∷ actions_from (length letters + n) (words_after (Echo endpoint ∷ words) v) (view_after (Echo endpoint ∷ words) v)) first
    ∙ ap (λ (acts : List Action). answer_to endpoint letter ∷ acts)
    (later ∙ answers letters n endpoint words (taken v endpoint) left ∙ ap (λ (w : Sight). map (answer_to endpoint) letters ++ actions_from n words w) none)

pub echo_answers : EchoAnswers
echo_answers n endpoint words v = answers (letters_at v endpoint) n endpoint words v refl

-- what gives something is all of the words, or fewer
given_or_fewer : (words : List Word) (v : Sight) → (given_from words v ≡ words) ⊎ (length (given_from words v) < length words)
given_or_fewer [] v = inl refl
given_or_fewer (word ∷ words) v = elim (cases_Bool (gives v word)) [
  | inl given ↦ rw given (inl refl)
  | inr idle ↦ rw idle (elim (given_or_fewer words v) [
    | inl same ↦ inr (rw same (omega arith))
    | inr fewer ↦ inr (omega arith)
  ])
]

behind_no_more : (word : Word) (words : List Word) → length (behind word words) ≤ suc (length words)
behind_no_more (Publish publication value) words = omega arith
behind_no_more (PublishSum publication input add) words = omega arith
behind_no_more (Send endpoint destination payload) words = omega arith
behind_no_more (Echo endpoint) words = omega arith
behind_no_more (Request time) words = omega arith
behind_no_more (Advance by) words = omega arith
behind_no_more (Iterate time mode) words = omega arith
behind_no_more Finish words = omega arith
behind_no_more (Fail text) words = omega arith

behind_first_no_more : (words : List Word) → length (behind_first words) ≤ length words
behind_first_no_more [] = omega arith
behind_first_no_more (word ∷ words) = behind_no_more word words

one_letter_less : (inboxes : List (List Letter)) (n : ℕ) (letter : Letter) (letters : List Letter) → get_or inboxes n [] ≡ letter ∷ letters
    → sum_by length (slice_set inboxes n (drop 1 (get_or inboxes n []))) + 1 ≡ sum_by length inboxes
one_letter_less [] n letter letters some = cc
one_letter_less (inbox ∷ inboxes) zero letter letters some =
    rw (some, sum_by-cons length letters inboxes, sum_by-cons length (letter ∷ letters) inboxes) (omega arith)
one_letter_less (inbox ∷ inboxes) (suc n) letter letters some =
    let less = one_letter_less inboxes n letter letters some in
    rw (sum_by-cons length inbox (slice_set inboxes n (drop 1 (get_or inboxes n []))), sum_by-cons length inbox inboxes) (omega arith)

-- where the first word gives something, it passes, or it is an echo that takes a letter
passes_or_answers : (word : Word) (words : List Word) (v : Sight) → gives v word ≡ true
    → (length (behind word words) < suc (length words)) ⊎ ((behind word words ≡ word ∷ words) × (letters_left (seen_after v (word ∷ words)) + 1 ≡ letters_left v))
passes_or_answers (Echo endpoint) words v given = inr (refl, go (letters_at v endpoint) refl given) where
  go : (letters : List Letter) → letters_at v endpoint ≡ letters → gives v (Echo endpoint) ≡ true → letters_left (taken v endpoint) + 1 ≡ letters_left v
  go [] none given = absurd (false≢true (sym (ap (λ ls. is_some (echo_of endpoint ls)) none) ∙ given))
  go (letter ∷ letters) some given = one_letter_less v.inboxes endpoint letter letters some
passes_or_answers (Publish publication value) words v given = inl (omega arith)
passes_or_answers (PublishSum publication input add) words v given = inl (omega arith)
passes_or_answers (Send endpoint destination payload) words v given = inl (omega arith)
passes_or_answers (Request time) words v given = inl (omega arith)
passes_or_answers (Advance by) words v given = inl (omega arith)
passes_or_answers (Iterate time mode) words v given = inl (omega arith)
passes_or_answers Finish words v given = inl (omega arith)
passes_or_answers (Fail text) words v given = inl (omega arith)

pub progresses : Progresses
progresses [] v some = absurd (some refl)
progresses (word ∷ words) v some = elim (cases_Bool (gives v word)) [
  | inl given ↦
      let all : given_from (word ∷ words) v ≡ word ∷ words = rw given refl in
      subst (λ (ws : List Word). (length (behind_first ws) < suc (length words)) ⊎ ((behind_first ws ≡ word ∷ words) × (letters_left (seen_after v ws) + 1 ≡ letters_left v)))
      (sym all) (passes_or_answers word words v given)
  | inr idle ↦
      let later : given_from (word ∷ words) v ≡ given_from words v = rw idle refl in
      let passed = behind_first_no_more (given_from words v) in
      let fewer : length (given_from words v) ≤ length words = elim (given_or_fewer words v) [ inl same ↦ rw same (omega arith) | inr less ↦ omega arith ] in
      inl (subst (λ (ws : List Word). length (behind_first ws) < suc (length words)) (sym later) (omega arith))
]
