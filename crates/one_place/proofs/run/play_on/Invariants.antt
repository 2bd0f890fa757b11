use Rattle.std.proofs.Common.{◌≤◌}
use Rattle.one_place.specs.Run.{Leads}
use Rattle.machine_laws.specs.Moves.{IsReference}
use Rattle.one_place.specs.Work.{work, letters}
use Rattle.one_place.proofs.run.play_on.Given as goal

-- what ends well from here ends well from the start, and there is no more work
abbrev pub invariant-loop-f : goal.invariant-loop-f
invariant-loop-f l =
    record {
      on : Leads IsReference IsReference l.fn.machine l.fn.actors l.machine l.actors;
      no_more : work l.machine.state.members l.actors ≤ work l.fn.machine.state.members l.fn.actors;
    }

abbrev pub decreases-loop-f : goal.decreases-loop-f
decreases-loop-f l = letters l.actors
