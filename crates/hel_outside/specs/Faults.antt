-- Counts of faults, and what objects of the outside tell.
use Rattle.std.specs.Prelude.{ℕ, ◌-◌, ◌^◌, ◌<◌, ◌≡◌, ◌⊎◌, ◌++◌, List, length, take, Option, Some, None}

-- a count rose: it is greater, or stands at the last value of its type
abbrev pub Rose : ℕ → ℕ → Type 0
Rose before after = (before < after) ⊎ (after ≡ 2 ^ 64 - 1)

-- what was told before, with these bytes at its end, is told after; nothing where nothing was told
abbrev pub Gains : Option (List ℕ) → Option (List ℕ) → List ℕ → Type 0
Gains None after bytes = after ≡ None
Gains (Some told) after bytes = after ≡ Some (told ++ bytes)

-- some first part of these bytes was gained, and not all of them
abbrev pub GainsPart : Option (List ℕ) → Option (List ℕ) → List ℕ → Type 0
GainsPart before after bytes = (n : ℕ) × ((n < length bytes) × Gains before after (take n bytes))

-- the greatest length of a file that is read
abbrev pub file_limit : ℕ
file_limit = 16777216
