-- What words ask for, which leave out the program's own name.
use Rattle.std.specs.Prelude.{◌≡◌, true, if◌then◌else◌, IsSome, List, [], ◌∷◌, Option, Some, None, codes, unwrap_or, Result, Ok, Err}
use Rattle.std.specs.Str.{bytes_eq}
use Rattle.clap.specs.Words.{App, Row, Rule, Text, first_of, new_app, new_rule, with_rule, matches_of, fault_of}
use Rattle.command_words.specs.declared.Verb.{Verb}
use Rattle.command_words.specs.declared.Verb.TheVariants.{Check, Sim}
use Rattle.command_words.specs.declared.Asked.{Asked}
use Rattle.command_words.specs.declared.WordsRefusal.{WordsRefusal}
use Rattle.command_words.specs.declared.WordsRefusal.TheVariants.{BadWords, OutOfMemory}

abbrev pub verb_of : Text → Option Verb
verb_of word =
    if bytes_eq word (codes "check") then Some Check
    else (if bytes_eq word (codes "sim") then Some Sim
    else None)

-- ---- the words behind the first, as one simple command of clap reads them: FILE

abbrev pub file : Rule
file = record (new_rule (codes "file")) { required = true }

-- no program's name before the words, no help flag, no version
abbrev pub bare : App
bare = let a = new_app (codes "file") in
    record a { top = record a.top { no_binary_name = true; disable_help_flag = true } }

abbrev pub one_file : App
one_file = with_rule bare file

-- the command takes the words
unfoldable pub accepts : List Text → Type 0
accepts words = fault_of one_file words ≡ []

-- what the command makes of the words
unfoldable pub file_rows : List Text → List Row
file_rows words = matches_of one_file words

abbrev pub file_in : List Row → Text
file_in rows = unwrap_or (first_of (codes "file") rows) []

-- ---- all words

-- the first word says what is asked for, and the command takes the rest
abbrev pub IsAsked : List Text → Asked → Type 0
IsAsked [] a = ⊥
IsAsked (first ∷ rest) a = (verb_of first ≡ Some a.verb) × accepts rest × (a.file ≡ file_in (file_rows rest))

-- what the words ask for, or that they ask for nothing; memory may be wanting where the first word asks for something
abbrev pub Asks : List Text → Result Asked WordsRefusal → Type 0
Asks words (Ok a) = IsAsked words a
Asks words (Err BadWords) = (a : Asked) → ¬ IsAsked words a
Asks [] (Err OutOfMemory) = ⊥
Asks (first ∷ rest) (Err OutOfMemory) = IsSome (verb_of first)
