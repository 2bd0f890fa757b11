-- The bounds of filters and chains.
use Rattle.std.specs.Prelude.{ℕ}

-- the parts of a whole
abbrev pub million : ℕ
million = 1000000

-- the most filters of a chain
abbrev pub most_filters : ℕ
most_filters = 8
