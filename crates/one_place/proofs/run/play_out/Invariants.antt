use Rattle.one_place.specs.Run.{Leads}
use Rattle.machine_laws.specs.Moves.{IsReference}
use Rattle.one_place.specs.Work.{work}
use Rattle.one_place.proofs.run.play_out.Given as goal

-- what ends well from here ends well from the start
abbrev pub invariant-loop-hints : goal.invariant-loop-hints
invariant-loop-hints l = Leads IsReference IsReference l.fn.machine l.fn.actors l.machine l.actors

abbrev pub decreases-loop-hints : goal.decreases-loop-hints
decreases-loop-hints l = work l.machine.state.members l.actors
