-- Paths along links, and the rows of ancestors.
use Rattle.std.specs.Prelude.{ℕ, ◌≡◌, ◌≢◌, ◌↔◌, Bool, true, List, [], length, slice_index_or}
use Rattle.std.specs.List.Sorted.{IsStrictlyIncreasing}
use Rattle.hel_lists.specs.Members.{IsIn}

-- a path of one or more links leads from a federate to another
pub data Leads (link : ℕ → ℕ → Bool) : ℕ → ℕ → Type 0 where
  by_link : (a f : ℕ) → link a f ≡ true → Leads link a f
  by_way_of : (a b f : ℕ) → Leads link a b → Leads link b f → Leads link a f

-- the row of a federate
abbrev pub row_of : List (List ℕ) → ℕ → List ℕ
row_of rows f = slice_index_or rows f []

-- the row of each federate holds the others from which a path leads to it, in ascending order
pub record AreAncestors (count : ℕ) (link : ℕ → ℕ → Bool) (rows : List (List ℕ)) : Type 0 where
  pub one_each : length rows ≡ count
  pub ascending : (f : ℕ) → IsStrictlyIncreasing (row_of rows f)
  pub exact : (a f : ℕ) → IsIn a (row_of rows f) ↔ ((a ≢ f) × Leads link a f)
