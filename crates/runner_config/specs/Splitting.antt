-- The words of a text: it is split at spaces and tabs, and what stands between two quotes belongs to its word.
use Rattle.std.specs.Prelude.{ℕ, ◌<◌, ◌==◌, ◌||◌, Bool, if◌then◌else◌, List, [], ◌∷◌, ◌++◌, Option, Some, None, option_map, unwrap_or, String, string_bytes}
use Rattle.std.specs.Option.{IfSome}
use Rattle.std.specs.declared.alloc.Global.{Global}
use Rattle.runner_config.specs.declared.splitting.SoFar.{SoFar}

abbrev pub is_gap : ℕ → Bool
is_gap c = (c == 32) || (c == 9)

abbrev pub is_quote : ℕ → Bool
is_quote c = (c == 34) || (c == 39)

-- what follows a place: what is left of the word that goes on there, where one does, and the words behind it
abbrev pub Rest : Type 0
Rest = Option (List ℕ) × List (List ℕ)

abbrev pub all_of : Rest → List (List ℕ)
all_of (None, words) = words
all_of (Some word, words) = word ∷ words

-- a gap stands in front
abbrev pub behind_gap : Rest → Rest
behind_gap rest = (None, all_of rest)

-- letters of a word stand in front
abbrev pub behind : List ℕ → Rest → Rest
behind letters rest = (Some (letters ++ unwrap_or rest.0 []), rest.1)

-- what follows under an open quote, and none where a quote doesn't end
abbrev pub rest_of : Option ℕ → List ℕ → Option Rest
rest_of None [] = Some (None, [])
rest_of (Some quote) [] = None
rest_of None (c ∷ cs) =
    if is_gap c then option_map behind_gap (rest_of None cs)
    else (if is_quote c then option_map (behind []) (rest_of (Some c) cs) else option_map (behind (c ∷ [])) (rest_of None cs))
rest_of (Some quote) (c ∷ cs) =
    if c == quote then option_map (behind []) (rest_of None cs) else option_map (behind (c ∷ [])) (rest_of (Some quote) cs)

-- the words of a text
unfoldable pub words_of : List ℕ → Option (List (List ℕ))
words_of text = option_map all_of (rest_of None text)

-- ---- what the code keeps

abbrev pub word_bytes : Option (String Global) → Option (List ℕ)
word_bytes word = option_map string_bytes word

abbrev pub longer : Option (List ℕ) → List ℕ → Option (List ℕ)
longer word letters = Some (unwrap_or word [] ++ letters)

-- what follows is behind a word that goes on
abbrev pub joined : Option (List ℕ) → Rest → Rest
joined None rest = rest
joined (Some word) rest = behind word rest

-- the words, if what is split so far goes on like this
abbrev pub goes_on : SoFar → List ℕ → Option (List (List ℕ))
goes_on s text = option_map (λ rest. s.words ++ all_of (joined (word_bytes s.word) rest)) (rest_of s.quote text)

-- an open quote is a character of one byte
abbrev pub IsOpenOk : Option ℕ → Type 0
IsOpenOk quote = IfSome quote (λ q. q < 128)
