-- How the code plays scripts in other orders, and up to a failure.
use Rattle.std.specs.Prelude.{ℕ, ◌≡◌, false, List, length, Option, Some}
use Rattle.std.specs.List.{filter, range_with_len}
use Rattle.machine_laws.specs.Moves.{Scripts}
use Rattle.one_place.specs.declared.actor.Actor.{Actor}
use Rattle.one_place.specs.declared.orders.Going.{Going}
use Rattle.one_place.specs.declared.orders.Going.TheVariants.{On, Still, Failed}
use Rattle.one_place.specs.Machine.{Stage}
use Rattle.one_place.specs.Orders.{IsUpTo}
use Rattle.one_place.specs.Work.{HasLess}
use Rattle.one_place.specs.Run.{wires_at, play_of, may_move, AreFollowing, Played, Leads}

-- the federates that may act, by number
abbrev pub movers_at : Stage → List ℕ
movers_at s = filter (may_move s) (range_with_len 0 (length s.state.members))

-- a run up to a failure leads from the one stage to the other, whoever fails
abbrev pub LeadsOn : Stage → List Actor → Stage → List Actor → Type 0
LeadsOn s actors t rest = (failed : Option ℕ) → Leads (IsUpTo failed) (IsUpTo failed) s actors t rest

-- where a run up to a failure has come to
abbrev pub HasCome : Stage → List Actor → Stage → List Actor → Going → Type 0
HasCome s actors t rest On = LeadsOn s actors t rest × HasLess s actors t rest
HasCome s actors t rest Still = LeadsOn s actors t rest × ((f : ℕ) → may_move t f ≡ false)
HasCome s actors t rest (Failed f) = (plays : Scripts) (calls : List ℕ) → AreFollowing plays s calls actors →
    (end : List ℕ) × Played (IsUpTo (Some f)) (wires_at s) plays (play_of s calls) (play_of t end)
