-- Federates that wait for current updates.
use Rattle.std.specs.Prelude.{ℕ, ◌≡◌, ◌<◌, ◌≤◌, ◌⊎◌, Option, None, Some}
use Rattle.machine_laws.specs.Laws.{WaitForEachOther}
use Rattle.federation_plan.specs.Plan.{Federation}
use Rattle.federation_plan.specs.Wires.{wires_of}

-- two federates that wait for each other, the lesser first
abbrev pub IsWaitPair : Federation → ℕ → ℕ → Type 0
IsWaitPair p a b = (a < b) × WaitForEachOther (wires_of p) a b

-- a pair of two federates stands at or before another one
abbrev pub ComesFirst : ℕ → ℕ → ℕ → ℕ → Type 0
ComesFirst a b c d = (a < c) ⊎ ((a ≡ c) × (b ≤ d))

-- there is no pair, or this is the first
abbrev pub IsFirstWait : Federation → Option (ℕ × ℕ) → Type 0
IsFirstWait p None = (c d : ℕ) → IsWaitPair p c d → ⊥
IsFirstWait p (Some (a, b)) = IsWaitPair p a b × ((c d : ℕ) → IsWaitPair p c d → ComesFirst a b c d)

-- the same of the pairs of one federate, by the other
abbrev pub IsFirstPartner : Federation → ℕ → Option ℕ → Type 0
IsFirstPartner p a None = (d : ℕ) → IsWaitPair p a d → ⊥
IsFirstPartner p a (Some b) = IsWaitPair p a b × ((d : ℕ) → IsWaitPair p a d → b ≤ d)
