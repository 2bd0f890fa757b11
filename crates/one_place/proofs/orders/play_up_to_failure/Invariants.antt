use Rattle.one_place.specs.Playing.{LeadsOn}
use Rattle.one_place.specs.Run.{AreActors}
use Rattle.one_place.specs.Work.{work}
use Rattle.one_place.proofs.orders.play_up_to_failure.Given as goal

abbrev pub invariant-loop-hints : goal.invariant-loop-hints
invariant-loop-hints l =
    record {
      on : LeadsOn l.fn.machine l.fn.actors l.machine l.actors;
      ready : AreActors l.machine.state l.actors;
    }

abbrev pub decreases-loop-hints : goal.decreases-loop-hints
decreases-loop-hints l = work l.machine.state.members l.actors
