use Rattle.std.proofs.Common.{arith, get_or}
use Rattle.std.proofs.lemmas.Result.{err_from_is_err_and}
use Rattle.federation_plan.specs.Interfaces.{blank_endpoint}
use Rattle.federation_plan.proofs.Lists.{own_default}
use Rattle.federation_plan.proofs.Firsts.{found_in, next_in}
use Rattle.federation_plan.proofs.chains.check_chains_of.Goals as goal

pub returns-in_err-check_chain : goal.returns-in_err-check_chain
returns-in_err-check_chain c = let p = err_from_is_err_and c.from_residual.result c.from_residual.ensures.1 in
    rw (p.1, p.2) (found_in _ _ _ _ _ _ (get_or c.args.federate.now.endpoints c.loop-index.index blank_endpoint) _ c.loop-index.invariant (omega arith)
    (own_default c.args.federate.now.endpoints c.loop-index.index blank_endpoint (omega arith)) (c.in_err-check_chain.ensures c.args.federate.now.name (get_or c.args.federate.now.endpoints c.loop-index.index blank_endpoint)))

pub loop-index-preserved : goal.loop-index-preserved
loop-index-preserved c = next_in _ _ _ _ _ _ (get_or c.args.federate.now.endpoints c.loop-index.index blank_endpoint) c.loop-index.invariant (omega arith)
    (own_default c.args.federate.now.endpoints c.loop-index.index blank_endpoint (omega arith)) (c.in_ok-check_chain.ensures c.args.federate.now.name (get_or c.args.federate.now.endpoints c.loop-index.index blank_endpoint))
