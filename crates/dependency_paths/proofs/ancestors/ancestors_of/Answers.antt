use Rattle.std.proofs.Common.{◌<◌, arith, length}
use Rattle.dependency_paths.proofs.Tables.{no_rows, one_row, to_within}
use Rattle.dependency_paths.proofs.ancestors.ancestors_of.Goals as goal

pub loop-f-init : goal.loop-f-init
loop-f-init c = rw c.new-rows.ensures (no_rows _)

pub loop-f-preserved : goal.loop-f-preserved
loop-f-preserved c = rw c.in_ok-push.ensures.ok (one_row _ _ _ _ c.loop-f.invariant c.in_ok-numbers_in.ensures.rises c.in_ok-numbers_in.ensures.exact)

pub returns-clause-exact : goal.returns-clause-exact
returns-clause-exact c = λ a f. (
  c.loop-f.invariant.sound a f,
  (λ is. let below : f < length c.args.table.now = to_within _ a f is.1 in c.loop-f.invariant.whole a f (omega arith) is.0 is.1),
)
