use Rattle.std.proofs.Common.{◌≡◌, ◌≤◌, ◌*◌, drop}
use Rattle.helics_time.specs.Time.{longest_span}
use Rattle.message_filters.proofs.Rest.{outcome}
use Rattle.message_filters.proofs.chain.Chain.run.Given as goal

abbrev pub invariant-loop-place : goal.invariant-loop-place
invariant-loop-place l = record {
  rest : outcome l.source l.sequence l.place l.dest l.delay (drop l.place l.filter-items)
      ≡ outcome l.source l.sequence 0 l.initial.dest 0 l.filter-items;
  small : l.delay ≤ l.place * longest_span;
}
