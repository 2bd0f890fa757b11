use Rattle.std.proofs.Common.{arith}
use Rattle.std.proofs.lemmas.Result.{err_from_is_err_and}
use Rattle.federation_plan.proofs.Firsts.{found_from, next_from}
use Rattle.federation_plan.proofs.chains.check_chains.Goals as goal

pub returns-in_err-check_chains_of : goal.returns-in_err-check_chains_of
returns-in_err-check_chains_of c = let p = err_from_is_err_and c.from_residual.result c.from_residual.ensures.1 in
    rw (p.1, p.2) (found_from _ _ _ _ _ c.index-federates-f.result _ c.loop-f.invariant (omega arith) c.index-federates-f.is c.in_err-check_chains_of.ensures)

pub loop-f-preserved : goal.loop-f-preserved
loop-f-preserved c = next_from _ _ _ _ _ c.index-federates-f.result c.loop-f.invariant (omega arith) c.index-federates-f.is c.in_ok-check_chains_of.ensures
