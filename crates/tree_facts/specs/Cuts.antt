-- What an edge of a tree cuts: the only facts on trees that laws over them use.
use Rattle.std.specs.Prelude.{ℕ, ◌≡◌, ◌⊎◌, true, not, List}
use Rattle.tree_facts.specs.Tree.{IsTree, Beside, side, hop}

-- z stands beyond y, as seen from its neighbour x
abbrev pub Beyond : List ℕ → ℕ → ℕ → ℕ → Type 0
Beyond ps x y z = side ps x y z ≡ true

-- the edge of u and v is not that of x and y
pub record Apart (u v x y : ℕ) : Type 0 where
  pub same_way : u ≡ x → v ≡ y → ⊥
  pub other_way : u ≡ y → v ≡ x → ⊥

-- where an edge stands of which both ends are beyond y: it begins or ends at y, or stands beyond another neighbour of y
pub data Within (ps : List ℕ) (x y u v : ℕ) : Type 0 where
  from_near : (u ≡ y) → (v ≡ x → ⊥) → Within ps x y u v
  to_near : (v ≡ y) → (u ≡ x → ⊥) → Within ps x y u v
  further : (w : ℕ) → Beside ps y w → (w ≡ x → ⊥) → Beyond ps y w u → Beyond ps y w v → Within ps x y u v

pub record CutFacts : Type 0 where
  -- a neighbour is beyond itself
  pub near : (ps : List ℕ) (x y : ℕ) → IsTree ps → Beside ps x y → Beyond ps x y y
  -- an edge has two sides, and each node stands on one of them
  pub halves : (ps : List ℕ) (x y z : ℕ) → IsTree ps → Beside ps x y → side ps y x z ≡ not (side ps x y z)
  -- both ends of another edge stand on one side
  pub edge_stays : (ps : List ℕ) (x y u v : ℕ) → IsTree ps → Beside ps x y → Beside ps u v → Apart u v x y → side ps x y u ≡ side ps x y v
  -- what is beyond a further neighbour is beyond the nearer one
  pub nested : (ps : List ℕ) (x y w z : ℕ) → IsTree ps → Beside ps x y → Beside ps y w → (w ≡ x → ⊥) → Beyond ps y w z → Beyond ps x y z
  -- every other node is beyond the hop to it, and beyond no other neighbour
  pub hop_is : (ps : List ℕ) (z t : ℕ) → IsTree ps → (z ≡ t → ⊥) → Beside ps z (hop ps z t) × Beyond ps z (hop ps z t) t
  pub hop_only : (ps : List ℕ) (z t w : ℕ) → IsTree ps → Beside ps z w → Beyond ps z w t → w ≡ hop ps z t
  -- what is beyond y is y, or beyond the hop from y to it, which leads on
  pub onward : (ps : List ℕ) (x y z : ℕ) → IsTree ps → Beside ps x y → Beyond ps x y z → (z ≡ y) ⊎ (Beside ps y (hop ps y z) × Beyond ps y (hop ps y z) z × (hop ps y z ≡ x → ⊥))
  -- where an edge beyond y stands
  pub edges_within : (ps : List ℕ) (x y u v : ℕ) → IsTree ps → Beside ps x y → Beside ps u v → Beyond ps x y u → Beyond ps x y v → Within ps x y u v
