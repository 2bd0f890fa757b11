use Rattle.std.proofs.Common.{arith}
use Rattle.std.proofs.lemmas.Result.{err_from_is_err_and}
use Rattle.federation_plan.proofs.Firsts.{found_lent, next_lent}
use Rattle.federation_plan.proofs.refusal.check_filters_of.Goals as goal

pub returns-in_err-check_filter : goal.returns-in_err-check_filter
returns-in_err-check_filter c = let p = err_from_is_err_and c.from_residual.result c.from_residual.ensures.1 in
    rw (p.1, p.2) (found_lent _ _ _ _ _ _ _ c.filter-item.result _ c.as_slice-filter-items.ensures c.loop-filter.invariant (omega arith) c.filter-item.is
    (c.in_err-check_filter.ensures c.args.federate.now.name c.args.f c.loop-filter.filter-index))

pub loop-filter-preserved : goal.loop-filter-preserved
loop-filter-preserved c = next_lent _ _ _ _ _ _ _ c.filter-item.result c.as_slice-filter-items.ensures c.loop-filter.invariant (omega arith) c.filter-item.is
    (c.in_ok-check_filter.ensures c.args.federate.now.name c.args.f c.loop-filter.filter-index)
