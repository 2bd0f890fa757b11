-- The words that stand for kinds of values and for what a filter does.
use Rattle.std.specs.Prelude.{ℕ, List, [], ◌∷◌, ◌++◌, map, codes, Option, Some, None, ok_or}
use Rattle.std.specs.Map.{lookup}
use Rattle.std.specs.Str.{bytes_eq}
use Rattle.serde_json.specs.Data.{Data}
use Rattle.hel_values.specs.declared.ValueKind.{ValueKind}
use Rattle.hel_values.specs.declared.ValueKind.TheVariants.{Int, Text, Bytes}
use Rattle.json_reading.specs.Reading.{Read, ◌>>=◌, here}
use Rattle.json_reading.specs.Leaves.{text_of}
use Rattle.json_reading.specs.declared.refusal.ConfigCause.TheVariants.{UnknownWord}
use Rattle.fed_config.specs.declared.words.Operation.{Operation}
use Rattle.fed_config.specs.declared.words.Operation.TheVariants.{Delay, RandomDrop, Reroute}

-- what a word of a table stands for
abbrev pub named_in : {A : Type 0} → List (List ℕ × A) → List ℕ → Option A
named_in table word = lookup (λ row. bytes_eq row word) table

-- a word of a table
abbrev pub word_in : {A : Type 0} → List (List ℕ × A) → Data → Read A
word_in table value = here (text_of value >>= λ word. ok_or (named_in table word) UnknownWord)

abbrev pub kinds : List (List ℕ × ValueKind)
kinds =
    (codes "int", Int)
    ∷ (codes "int64", Int)
    ∷ (codes "integer", Int)
    ∷ (codes "string", Text)
    ∷ (codes "raw", Bytes)
    ∷ (codes "bytes", Bytes)
    ∷ []

-- the kinds that an input may take; none is any
abbrev pub input_kinds : List (List ℕ × Option ValueKind)
input_kinds = map (λ row. (row.0, Some row.1)) kinds ++ (codes "any", None) ∷ []

abbrev pub operations : List (List ℕ × Operation)
operations =
    (codes "delay", Delay)
    ∷ (codes "random_drop", RandomDrop)
    ∷ (codes "randomdrop", RandomDrop)
    ∷ (codes "reroute", Reroute)
    ∷ []
