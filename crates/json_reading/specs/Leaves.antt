-- What one JSON value holds.
use Rattle.std.specs.Prelude.{◌≡◌, ℕ, ◌*◌, ◌^◌, Bool, List, [], ◌∷◌, length, nat_lt, if◌then◌else◌, ok_or, ℤ, pos, Result, Ok, Err}
use Rattle.std.specs.Borrow.{Bor}
use Rattle.serde_json.specs.Data.{Num, Data, number, string, array, Items}
use Rattle.serde_json.specs.Find.{as_u64, as_str, as_bool}
use Rattle.serde_json.specs.View.{items_view}
use Rattle.serde_json.specs.declared.value.Value.{Value}
use Rattle.helics_time.specs.declared.parse.TimeText.{TimeText}
use Rattle.helics_time.specs.Spelled as spelled
use Rattle.json_reading.specs.Reading.{Read, ◌>>=◌, here, each_from}
use Rattle.json_reading.specs.declared.refusal.ConfigCause.{ConfigCause}
use Rattle.json_reading.specs.declared.refusal.ConfigCause.TheVariants.{NotAText, NotABool, NotATime, Time, NotANumber, OutOfRange}

abbrev pub text_of : Data → Result (List ℕ) ConfigCause
text_of value = ok_or (as_str value) NotAText

-- at most so many bytes
abbrev pub few_bytes : ℕ → List ℕ → Result (List ℕ) ConfigCause
few_bytes most bytes = if nat_lt most (length bytes) then Err OutOfRange else Ok bytes

abbrev pub flag_of : Data → Result Bool ConfigCause
flag_of value = ok_or (as_bool value) NotABool

abbrev pub at_most : ℕ → ℕ → Result ℕ ConfigCause
at_most most n = if nat_lt most n then Err OutOfRange else Ok n

abbrev pub spelled_time : ℕ → Result ℕ TimeText → Result ℕ ConfigCause
spelled_time most (Ok t) = at_most most t
spelled_time most (Err refusal) = Err (Time refusal)

-- a time of at most so many nanoseconds: a whole number of seconds, or a text of a time
abbrev pub time_of : ℕ → Data → Result ℕ ConfigCause
time_of most (number n) = ok_or (as_u64 n) NotATime >>= λ seconds. at_most most (seconds * 1000000000)
time_of most (string text) = spelled_time most (spelled.time_of text)
time_of most _ = Err NotATime

abbrev pub whole_number : ℕ → ℕ → Num → Result ℕ ConfigCause
whole_number least most (Num.unsigned n) = if nat_lt n least then Err OutOfRange else at_most most n
whole_number least most (Num.negative z) = Err OutOfRange
whole_number least most (Num.float x) = Err NotANumber

-- an integer between two bounds
abbrev pub whole_of : ℕ → ℕ → Data → Result ℕ ConfigCause
whole_of least most (number n) = whole_number least most n
whole_of least most _ = Err NotANumber

abbrev pub signed_number : Num → Result ℤ ConfigCause
signed_number (Num.unsigned n) = if nat_lt n (2 ^ 63) then Ok (pos n) else Err OutOfRange
signed_number (Num.negative z) = Ok z
signed_number (Num.float x) = Err NotANumber

-- an integer of 64 signed bits
abbrev pub integer_of : Data → Result ℤ ConfigCause
integer_of (number n) = signed_number n
integer_of _ = Err NotANumber

-- ---- the ways to read a value

abbrev pub any_text : Data → Read (List ℕ)
any_text value = here (text_of value)

abbrev pub text_up_to : ℕ → Data → Read (List ℕ)
text_up_to most value = here (text_of value >>= few_bytes most)

abbrev pub true_or_false : Data → Read Bool
true_or_false value = here (flag_of value)

abbrev pub time_up_to : ℕ → Data → Read ℕ
time_up_to most value = here (time_of most value)

abbrev pub whole_between : ℕ → ℕ → Data → Read ℕ
whole_between least most value = here (whole_of least most value)

abbrev pub any_integer : Data → Read ℤ
any_integer value = here (integer_of value)

-- a text, or a list of texts
abbrev pub texts_in : Data → Read (List (List ℕ))
texts_in (string text) = Ok (text ∷ [])
texts_in (array items) = each_from any_text 0 items
texts_in _ = here (Err NotAText)

-- what a lent list is
abbrev pub GivesItems : Result (Bor (List Value)) ConfigCause → Result Items ConfigCause → Type 0
GivesItems (Ok list) read = read ≡ Ok (items_view list.now)
GivesItems (Err cause) read = read ≡ Err cause

-- what a lent text is
abbrev pub GivesText : Result (Bor (List ℕ)) ConfigCause → Result (List ℕ) ConfigCause → Type 0
GivesText (Ok text) read = read ≡ Ok text.now
GivesText (Err cause) read = read ≡ Err cause
