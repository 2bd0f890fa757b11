-- Runs of scripted federates in other orders, and up to a failure.
use Rattle.std.specs.Prelude.{ℕ, ◌%◌, ◌≡◌, is_some, List, [], ◌∷◌, length, drop, slice_get, slice_index_or, Option, Some, None}
use Rattle.std.specs.List.{filter, range_with_len}
use Rattle.fed_script.specs.Script.{Course}
use Rattle.machine_laws.specs.declared.logs.FedLog.{FedLog}
use Rattle.machine_laws.specs.Plan.{Plan}
use Rattle.machine_laws.specs.Moves.{Scripts, Play, move, IsStill, IsUpToFailure}
use Rattle.federation_plan.specs.Plan.{Federation}
use Rattle.one_place.specs.Reference.{HasLogs}

-- ---- an order by numbers

-- of some federates the one to which a number points: it counts round and round
abbrev pub pick : ℕ → List ℕ → Option ℕ
pick number [] = None
pick number (f ∷ fs) = slice_get (f ∷ fs) (number % length (f ∷ fs))

-- the first number of an order, and 0 behind its last
abbrev pub first_number : List ℕ → ℕ
first_number order = slice_index_or order 0 0

-- the federates that may move, by number
abbrev pub movers : Plan → Scripts → Play → List ℕ
movers p scripts w = filter (λ f. is_some (move p scripts f w)) (range_with_len 0 (length w.state.members))

-- at each turn the federate moves, of those that may, to which the next number points, until none may
abbrev pub IsOrdered : List ℕ → Plan → Scripts → Play → List ℕ → Play → Type 0
IsOrdered order p scripts w [] end = (end ≡ w) × IsStill p scripts w
IsOrdered order p scripts w (f ∷ fs) end =
    (next : Play) × (move p scripts f w ≡ Some next) × (pick (first_number order) (movers p scripts w) ≡ Some f) × IsOrdered (drop 1 order) p scripts next fs end

abbrev pub HasOrderedLogs : Federation → List Course → List ℕ → List FedLog → Type 0
HasOrderedLogs plan scripts order logs = HasLogs (IsOrdered order) plan scripts logs

-- ---- up to a failure

abbrev pub IsUpTo : Option ℕ → Plan → Scripts → Play → List ℕ → Play → Type 0
IsUpTo failed p scripts w feds end = IsUpToFailure p scripts w feds failed end

abbrev pub HasLogsUpToFailure : Federation → List Course → Option ℕ → List FedLog → Type 0
HasLogsUpToFailure plan scripts failed logs = HasLogs (IsUpTo failed) plan scripts logs
