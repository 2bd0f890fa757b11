-- The numbers of the statuses.
use Rattle.std.specs.Prelude.{ℕ}
use Rattle.helics_run.specs.declared.status.Status.{Status}
use Rattle.helics_run.specs.declared.status.Status.TheVariants.{Done, Halted, BadWords, FileFault, Refused, SinkFault, OutsideFault, LinkFault, Stuck, OutOfMemory, CountLimit, Mismatch}

abbrev pub number_of : Status → ℕ
number_of Done = 0
number_of Halted = 1
number_of BadWords = 2
number_of FileFault = 3
number_of Refused = 4
number_of SinkFault = 5
number_of OutsideFault = 6
number_of LinkFault = 7
number_of Stuck = 8
number_of OutOfMemory = 9
number_of CountLimit = 10
number_of Mismatch = 11
