use Rattle.dependency_paths.proofs.Tables.{AreRows}
use Rattle.dependency_paths.proofs.ancestors.ancestors_of.Given as goal

abbrev pub invariant-loop-f : goal.invariant-loop-f
invariant-loop-f l = AreRows l.table l.f l.rows
