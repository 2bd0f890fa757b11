-- In which mode a request is taken.
use Rattle.std.specs.Prelude.{ℕ, Bool, true, false, nat_le, if◌then◌else◌}
use Rattle.iteration_rules.specs.declared.Mode.{Mode}
use Rattle.iteration_rules.specs.declared.Mode.TheVariants.{Next, Force, IfNeeded}

-- a request in this mode may be granted at the time of the last grant
abbrev pub iterates : Mode → Bool
iterates Next = false
iterates Force = true
iterates IfNeeded = true

-- the mode in which a request is taken after this many iterating grants at one time, where at most so many are allowed
abbrev pub effective : Mode → ℕ → ℕ → Mode
effective mode count most = if nat_le most count then Next else mode
