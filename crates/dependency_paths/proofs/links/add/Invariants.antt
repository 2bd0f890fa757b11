use Rattle.std.proofs.Common.{◌≡◌, ◌≤◌, ◌<◌, ℕ, false, slice_index_or}
use Rattle.std.specs.Prelude.{◌||◌}
use Rattle.dependency_paths.proofs.links.add.Given as goal

abbrev pub invariant-loop-number : goal.invariant-loop-number
invariant-loop-number l = record {
  done : (a : ℕ) → a < l.number → slice_index_or l.row a false ≡ (slice_index_or l.fn.row a false || slice_index_or l.other a false);
  left : (a : ℕ) → l.number ≤ a → slice_index_or l.row a false ≡ slice_index_or l.fn.row a false;
}
