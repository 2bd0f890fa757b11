-- A tree as the list of its nodes' parents. Every number is a node: one past the end of the list stands below the root.
use Rattle.std.specs.Prelude.{ℕ, zero, suc, ◌<◌, ◌≡◌, ◌⊎◌, Bool, not, if◌then◌else◌, List, slice_index_or, nat_lt, ◌==◌, ◌||◌, ◌&&◌}

-- the parent of a node, 0 for the root
abbrev pub parent : List ℕ → ℕ → ℕ
parent ps z = slice_index_or ps z 0

pub record IsTree (ps : List ℕ) : Type 0 where
  pub root : parent ps 0 ≡ 0
  pub falls : (z : ℕ) → 0 < z → parent ps z < z

-- i is one of z, its parent, and so on, n times
unfoldable pub climbs : List ℕ → ℕ → ℕ → ℕ → Bool
climbs ps zero i z = i == z
climbs ps (suc n) i z = (i == z) || climbs ps n i (parent ps z)

-- i stands on the path from z to the root, z included
unfoldable pub over : List ℕ → ℕ → ℕ → Bool
over ps i z = climbs ps z i z

pub record IsChild (ps : List ℕ) (low high : ℕ) : Type 0 where
  pub not_root : 0 < low
  pub parent_is : parent ps low ≡ high

-- the two ends of an edge
abbrev pub Beside : List ℕ → ℕ → ℕ → Type 0
Beside ps u v = IsChild ps v u ⊎ IsChild ps u v

-- z stands beyond y, as seen from its neighbour x
unfoldable pub side : List ℕ → ℕ → ℕ → ℕ → Bool
side ps x y z = if nat_lt 0 y && parent ps y == x then over ps y z else not (over ps x z)

-- the first of t, its parent, and so on whose parent is z
unfoldable pub below : List ℕ → ℕ → ℕ → ℕ → ℕ
below ps zero z t = t
below ps (suc n) z t = if parent ps t == z then t else below ps n z (parent ps t)

-- the neighbour of z on the way to t
unfoldable pub hop : List ℕ → ℕ → ℕ → ℕ
hop ps z t = if over ps z t then below ps t z t else parent ps z
