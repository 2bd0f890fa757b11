-- Places of names.
use Rattle.std.specs.Prelude.{ℕ, List, Option}
use Rattle.std.specs.List.{position_from}
use Rattle.std.specs.Str.{bytes_eq}
use Rattle.std.specs.HashMap.{get_by_text}
use Rattle.fed_config.specs.declared.places.Places.{Places}

-- the first place of a name among names, counted from 0
abbrev pub place_in : List (List ℕ) → List ℕ → Option ℕ
place_in names name = position_from (λ other. bytes_eq other name) 0 names

-- the place that a table has of a name
abbrev pub place_at : Places → List ℕ → Option ℕ
place_at table name = get_by_text table.places name
