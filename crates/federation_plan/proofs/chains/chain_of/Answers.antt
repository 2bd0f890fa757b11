use Rattle.std.proofs.Common.{arith}
use Rattle.hel_lists.proofs.Members.{at_in}
use Rattle.federation_plan.proofs.chains.chain_of.Goals as goal

pub filter_at-requires : goal.filter_at-requires
filter_at-requires c = c.requires.known _ (at_in c.args.refs.now c.loop-at.at-index (record { fed = 0; index = 0 }) (omega arith))
