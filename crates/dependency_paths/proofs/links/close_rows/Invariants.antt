use Rattle.std.proofs.Common.{◌≡◌, length}
use Rattle.dependency_paths.specs.Links.{linked}
use Rattle.dependency_paths.proofs.Closing.{IsClosing}
use Rattle.dependency_paths.proofs.links.close_rows.Given as goal

abbrev pub invariant-loop-via : goal.invariant-loop-via
invariant-loop-via l = record {
  count : length l.rows ≡ length l.fn.rows;
  closing : IsClosing (linked l.fn.rows) (linked l.rows) l.via;
}
