use Rattle.std.proofs.Common.{◌≡◌, take}
use Rattle.std.specs.HashMap.{get_by_text}
use Rattle.federation_plan.specs.Tables.{chain_by}
use Rattle.federation_plan.specs.Depends.{last_reroute}
use Rattle.federation_plan.proofs.chains.last_end.Given as goal

abbrev pub invariant-loop-at : goal.invariant-loop-at
invariant-loop-at l = l.last ≡ last_reroute (chain_by (get_by_text l.endpoints) l.federates (take l.at-index l.refs))
