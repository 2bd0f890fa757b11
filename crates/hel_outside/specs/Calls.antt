-- The calls of an object in memory, numbered from 1, and those that are to fail.
use Rattle.std.specs.Prelude.{ℕ, ◌+◌, ◌-◌, ◌^◌, ◌==◌, List, Bool, min}
use Rattle.std.specs.List.{list_any}

-- a count after one more, which stands still at the last value of its type
abbrev pub counted : ℕ → ℕ
counted n = min (n + 1) (2 ^ 64 - 1)

-- the call that follows so many is one of those that are to fail
abbrev pub is_listed : List ℕ → ℕ → Bool
is_listed failing calls = list_any (λ n. n == counted calls) failing
