-- A broker's words, and the federates that it counts: `-f N`, `-fN`, `--federates N` or `--federates=N`.
use Rattle.std.specs.Prelude.{ℕ, ◌==◌, ◌&&◌, ◌||◌, Bool, false, not, nat_eq, if◌then◌else◌, List, [], ◌∷◌, length, drop, codes, Option, Some, None, unwrap_or, slice_index_or}
use Rattle.std.specs.Option.{option_or}
use Rattle.std.specs.List.{list_all, starts_with, ends_with}
use Rattle.std.specs.Str.{bytes_eq}
use Rattle.helics_time.specs.Spelled.{is_digit, number_of}

abbrev pub is_broker_word : List ℕ → Bool
is_broker_word word = bytes_eq word (codes "helics_broker") || ends_with nat_eq word (codes "/helics_broker")

-- the first word says so
abbrev pub is_broker : List (List ℕ) → Bool
is_broker [] = false
is_broker (word ∷ words) = is_broker_word word

abbrev pub is_digits : List ℕ → Bool
is_digits text = not (length text == 0) && list_all is_digit text

-- digits spell another number
abbrev pub is_other : ℕ → List ℕ → Bool
is_other count digits = not (number_of digits == count)

abbrev pub first_word : List (List ℕ) → List ℕ
first_word words = slice_index_or words 0 []

-- what stands behind a prefix
abbrev pub after : List ℕ → List ℕ → Option (List ℕ)
after prefix word = if starts_with nat_eq word prefix then Some (drop (length prefix) word) else None

-- what stands where a count does, by a word and those behind it
abbrev pub count_at : List ℕ → List (List ℕ) → List ℕ
count_at word behind =
    if bytes_eq word (codes "-f") || bytes_eq word (codes "--federates") then first_word behind
    else unwrap_or (option_or (after (codes "--federates=") word) (after (codes "-f") word)) []

-- one of the words counts another number
abbrev pub counts_other : ℕ → List (List ℕ) → Bool
counts_other count [] = false
counts_other count (word ∷ behind) =
    (is_digits (count_at word behind) && is_other count (count_at word behind)) || counts_other count behind
