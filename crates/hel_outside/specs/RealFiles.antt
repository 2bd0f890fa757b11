-- What the files of the system tell: their faults, and nothing of what they hold.
use Rattle.std.specs.Prelude.{ℕ, List, []}

pub record FilesFaults : Type 0 where
  pub faults : ℕ
  -- the path of the last read that failed
  pub failed_path : List ℕ

-- before the first fault
abbrev pub no_fault : FilesFaults
no_fault = record { faults = 0; failed_path = [] }
