use Rattle.std.proofs.Common.{◌≡◌, ◌<◌, ℕ, [], None, length, slice_index_or}
use Rattle.std.specs.HashMap.{get_by_text}
use Rattle.federation_plan.specs.Tables.{row_at, chain_by}
use Rattle.federation_plan.specs.Depends.{last_reroute}
use Rattle.federation_plan.proofs.chains.rerouted_row.Given as goal

abbrev pub invariant-loop-index : goal.invariant-loop-index
invariant-loop-index l = record {
  count : length l.row ≡ l.index;
  ends : (n : ℕ) → n < l.index → slice_index_or l.row n None
      ≡ last_reroute (chain_by (get_by_text l.endpoints) l.federates (slice_index_or (row_at l.sources l.f) n []));
}
