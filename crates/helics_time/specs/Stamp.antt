-- A stamp is a time and a micro step within it, in lexicographic order.
use Rattle.std.specs.Prelude.{ℕ, ◌+◌, ◌*◌, ◌-◌, ◌^◌, ◌<◌, ◌≤◌, ◌≡◌, ◌≢◌, Bool, true, false, nat_lt, ◌==◌, ◌&&◌, ◌||◌, if◌then◌else◌}
use Rattle.helics_time.specs.Time.{max_time}

pub record At : Type 0 where
  pub time : ℕ
  pub micro : ℕ

-- a stamp that the type can hold
abbrev pub IsStamp : At → Type 0
IsStamp s = (s.time ≤ max_time) × (s.micro < 2 ^ 64)

-- the greatest stamp
abbrev pub never : At
never = record { time = max_time; micro = 2 ^ 64 - 1 }

-- a comes before b
abbrev pub before : At → At → Bool
before a b = nat_lt a.time b.time || (a.time == b.time && nat_lt a.micro b.micro)

-- a is the lesser, or they are equal
abbrev pub at_most : At → At → Bool
at_most a b = nat_lt a.time b.time || (a.time == b.time && (nat_lt a.micro b.micro || a.micro == b.micro))

-- r is the least stamp above s, or s where none is above it
pub record IsNext (s r : At) : Type 0 where
  pub above : s ≢ never → before s r ≡ true
  pub least : (x : At) → IsStamp x → before s x ≡ true → before x r ≡ false
  pub last : s ≡ never → r ≡ never

-- the least stamp above s: see IsNext
abbrev pub next_of : At → At
next_of s =
    if nat_lt s.micro (2 ^ 64 - 1) then record { time = s.time; micro = s.micro + 1 }
    else (if nat_lt s.time max_time then record { time = s.time + 1; micro = 0 } else s)

-- stamps in order, as numbers
abbrev pub rank : At → ℕ
rank s = s.time * 2 ^ 64 + s.micro

-- a due that an item may have
pub record IsDue (due : At) : Type 0 where
  pub time : due.time < 2 ^ 62 + 2 ^ 61
  pub micro : due.micro ≤ 2 ^ 62 + 1
