use Rattle.std.proofs.Common.{◌≡◌, ◌<◌, ℕ, [], length, slice_index_or}
use Rattle.std.specs.HashMap.{get_by_text}
use Rattle.federation_plan.specs.Tables.{row_at, chains_by, blank_chains}
use Rattle.federation_plan.proofs.chains.chains_row.Given as goal

abbrev pub invariant-loop-index : goal.invariant-loop-index
invariant-loop-index l = record {
  count : length l.row ≡ l.index;
  chains : (n : ℕ) → n < l.index → slice_index_or l.row n blank_chains
      ≡ chains_by (get_by_text l.endpoints) l.federates (slice_index_or (row_at l.sources l.f) n []) (slice_index_or (row_at l.destinations l.f) n []);
}
