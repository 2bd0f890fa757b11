-- Links as a table: a row for each federate, which says from which numbers a link leads there.
use Rattle.std.specs.Prelude.{ℕ, ◌≡◌, ◌<◌, ◌≤◌, Bool, true, false, List, [], length, slice_index_or}

-- a link leads from a to b
abbrev pub linked : List (List Bool) → ℕ → ℕ → Bool
linked table a b = slice_index_or (slice_index_or table b []) a false

-- the most federates
abbrev pub most_federates : ℕ
most_federates = 512

-- links stand between federates of the table alone
pub record AreLinks (table : List (List Bool)) : Type 0 where
  pub few : length table ≤ most_federates
  pub within : (a b : ℕ) → linked table a b ≡ true → a < length table
