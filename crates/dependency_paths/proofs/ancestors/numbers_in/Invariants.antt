use Rattle.dependency_paths.proofs.Numbers.{AreNumbers}
use Rattle.dependency_paths.proofs.ancestors.numbers_in.Given as goal

abbrev pub invariant-loop-number : goal.invariant-loop-number
invariant-loop-number l = AreNumbers l.row l.but l.number l.numbers
