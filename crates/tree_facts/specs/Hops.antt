-- The next node on the way through a tree.
use Rattle.std.specs.Prelude.{ℕ, ◌==◌, List, if◌then◌else◌}
use Rattle.tree_facts.specs.Tree.{parent, over, hop}
use Rattle.tree_facts.specs.declared.hops.Hop.{Hop}
use Rattle.tree_facts.specs.declared.hops.Hop.TheVariants.{Here, Up, Child}

-- from z to t: z is t, or t stands below a child of z, or the way leads up
abbrev pub next_hop_of : List ℕ → ℕ → ℕ → Hop
next_hop_of ps z t = if z == t then Here else (if over ps z t then Child (hop ps z t) else Up)

-- the node to which a hop from z leads
abbrev pub node_after : List ℕ → ℕ → Hop → ℕ
node_after ps z Here = z
node_after ps z Up = parent ps z
node_after ps z (Child w) = w
