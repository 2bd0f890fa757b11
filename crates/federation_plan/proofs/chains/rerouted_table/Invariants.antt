use Rattle.std.proofs.Common.{◌≡◌, ◌<◌, ℕ, length}
use Rattle.std.specs.HashMap.{get_by_text}
use Rattle.hel_values.specs.declared.EndRef.{EndRef}
use Rattle.federation_plan.specs.Interfaces.{federate_at}
use Rattle.federation_plan.specs.Tables.{row_at, entry, chain_by, rerouted_at}
use Rattle.federation_plan.specs.Depends.{last_reroute}
use Rattle.federation_plan.proofs.chains.rerouted_table.Given as goal

abbrev pub invariant-loop-f : goal.invariant-loop-f
invariant-loop-f l = record {
  count : length l.table ≡ l.f;
  places : (f : ℕ) → f < l.f → length (row_at l.table f) ≡ length (federate_at l.federates f).endpoints;
  ends : (e : EndRef) → e.fed < l.f → rerouted_at l.table e ≡ last_reroute (chain_by (get_by_text l.endpoints) l.federates (entry l.sources e));
}
