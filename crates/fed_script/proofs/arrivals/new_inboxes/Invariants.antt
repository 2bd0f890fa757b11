use Rattle.std.proofs.Common.{◌≡◌, []}
use Rattle.std.specs.Prelude.{replicate}
use Rattle.fed_script.specs.Room.{letters_of}
use Rattle.fed_script.proofs.arrivals.new_inboxes.Given as goal

abbrev pub invariant-loop : goal.invariant-loop
invariant-loop l = letters_of l.inboxes ≡ replicate l.counter []
