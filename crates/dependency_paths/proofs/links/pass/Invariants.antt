use Rattle.std.proofs.Common.{◌≡◌, ◌≤◌, ◌<◌, ℕ}
use Rattle.std.specs.Prelude.{◌||◌, ◌&&◌}
use Rattle.dependency_paths.specs.Links.{linked}
use Rattle.dependency_paths.proofs.links.pass.Given as goal

abbrev pub invariant-loop-row : goal.invariant-loop-row
invariant-loop-row l = record {
  done : (a b : ℕ) → b < l.row-index → linked l.rows a b ≡ (linked l.fn.rows a b || (linked l.fn.rows l.via b && linked l.fn.rows a l.via));
  left : (a b : ℕ) → l.row-index ≤ b → linked l.rows a b ≡ linked l.fn.rows a b;
}
