use Rattle.std.proofs.Common.{◌≡◌, take}
use Rattle.message_filters.proofs.chain.ChainCopied.copy.Given as goal

abbrev pub invariant-loop-filter : goal.invariant-loop-filter
invariant-loop-filter l = l.copy ≡ take l.filter-index l.filter-items
