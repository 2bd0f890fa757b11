use Rattle.std.proofs.Common.{arith}
use Rattle.federation_plan.proofs.Lists.{each_next, each_all}
use Rattle.federation_plan.proofs.plan.know_filters.Goals as goal

pub loop-filter-preserved : goal.loop-filter-preserved
loop-filter-preserved c = each_next _ c.args.filters.now c.loop-filter.filter-index c.filter-item.result (omega arith) c.filter-item.is c.loop-filter.invariant c.know_filter.ensures

pub returns : goal.returns
returns c = each_all _ c.args.filters.now c.loop-filter.filter-index (omega arith) c.loop-filter.invariant
