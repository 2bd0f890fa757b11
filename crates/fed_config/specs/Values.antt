-- What a script publishes and sends.
use Rattle.std.specs.Prelude.{ℕ, List, [], ◌∷◌, codes, Result, Ok, Err}
use Rattle.serde_json.specs.Data.{Num, Data, number, string, object}
use Rattle.hex.specs.Hex.{decode_of}
use Rattle.hex.specs.declared.FromHexError.{FromHexError}
use Rattle.hel_values.specs.Limits.{data_limit}
use Rattle.hel_values.specs.declared.Value.{Value}
use Rattle.hel_values.specs.declared.Value.TheVariants.{Int, Text, Bytes}
use Rattle.json_reading.specs.Reading.{Read, ◌>>=◌, here, members_of, needed_at}
use Rattle.json_reading.specs.Leaves.{text_of, few_bytes, signed_number, text_up_to}
use Rattle.json_reading.specs.declared.refusal.ConfigCause.{ConfigCause}
use Rattle.json_reading.specs.declared.refusal.ConfigCause.TheVariants.{NotAText, NotANumber, BadHex}

-- bytes that are read of a text in hex
abbrev pub few_decoded : Result (List ℕ) FromHexError → Result (List ℕ) ConfigCause
few_decoded (Ok bytes) = few_bytes data_limit bytes
few_decoded (Err bad) = Err BadHex

-- a text with two hexadecimal digits for each byte
abbrev pub hex_text : Data → Read (List ℕ)
hex_text value = here (text_of value >>= λ text. few_decoded (decode_of text))

-- bytes: an object with such a text
abbrev pub hex_object : Data → Read (List ℕ)
hex_object value = members_of (codes "hex" ∷ []) value >>= λ members. needed_at (codes "hex") hex_text members

abbrev pub short_text : List ℕ → Read (List ℕ)
short_text text = here (few_bytes data_limit text)

-- an integer, a text, or bytes
abbrev pub value_of : Data → Read Value
value_of (number n) = here (signed_number n) >>= λ z. Ok (Int z)
value_of (string text) = short_text text >>= λ held. Ok (Text held)
value_of (object members) = hex_object (object members) >>= λ bytes. Ok (Bytes bytes)
value_of _ = here (Err NotANumber)

abbrev pub no_data : Num → ConfigCause
no_data (Num.unsigned n) = NotAText
no_data (Num.negative z) = NotAText
no_data (Num.float x) = NotANumber

-- what is sent: a text or bytes
abbrev pub data_of : Data → Read (List ℕ)
data_of (number n) = here (Err (no_data n))
data_of (string text) = short_text text
data_of (object members) = hex_object (object members)
data_of _ = here (Err NotANumber)

-- a text with which a federate fails
abbrev pub failure_of : Data → Read (List ℕ)
failure_of value = text_up_to data_limit value
