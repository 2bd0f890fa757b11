use Rattle.dependency_paths.proofs.Tables.{HasNone}
use Rattle.dependency_paths.proofs.links.Links.new.Given as goal

abbrev pub invariant-loop : goal.invariant-loop
invariant-loop l = HasNone l.counter l.rows.items
