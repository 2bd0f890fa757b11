use Rattle.one_place.proofs.seat.Clock.put.Goals as goal
use Rattle.one_place.proofs.seat.Clock.put.Goals.{in-Ok, in-Err}

pub returns-clause-dues : goal.returns-clause-dues
returns-clause-dues c = elim c.match-put.branch [
  | in-Ok w ↦ rw (w.result-is, w.self-is) w.refresh.ensures.dues
  | in-Err w ↦ rw w.result-is tt
]
