-- What scripted federates have left to do.
use Rattle.std.specs.Prelude.{ℕ, ◌+◌, ◌*◌, ◌<◌, Bool, false, List, [], ◌∷◌, length}
use Rattle.time_state.specs.declared.Phase.{Phase}
use Rattle.time_state.specs.declared.Phase.TheVariants.{Running, Entering, Waiting, Ended}
use Rattle.fed_script.specs.Laws.{letters_left}
use Rattle.fed_script.specs.Script.{answers}
use Rattle.machine_laws.specs.Machine.{Member}
use Rattle.one_place.specs.declared.actor.Actor.{Actor}
use Rattle.one_place.specs.Machine.{Stage}

-- of one federate: twice the calls that it has left, an echo being one, and one where it waits
abbrev pub weight : Phase → Actor → ℕ
weight (Ended cause) a = 0
weight Running a = 2 * (length a.script.words + 1)
weight Entering a = 2 * (length a.script.words + 1) + 1
weight Waiting a = 2 * (length a.script.words + 1) + 1
weight phase a = 2 * (length a.script.initial + length a.script.words + 2)

-- of all federates
unfoldable pub work : List Member → List Actor → ℕ
work (m ∷ ms) (a ∷ actors) = weight m.time.phase a + work ms actors
work ms actors = 0

-- the letters that they haven't answered
unfoldable pub letters : List Actor → ℕ
letters [] = 0
letters (a ∷ actors) = letters_left a.view + letters actors

-- the next call of a federate in this phase answers a letter
abbrev pub is_answering : Phase → Actor → Bool
is_answering Running a = answers a.script.words a.view
is_answering phase a = false

-- there is less to do
abbrev pub HasLess : Stage → List Actor → Stage → List Actor → Type 0
HasLess s actors t rest = work t.state.members rest < work s.state.members actors
