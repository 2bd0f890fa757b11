-- A sink in memory.
use Rattle.std.specs.Prelude.{ℕ, ◌-◌, ◌==◌, ◌++◌, Bool, ◌&&◌, ◌||◌, List, [], length, take, min, nat_lt}
use Rattle.hel_outside.specs.Calls.{counted, is_listed}

pub record SinkInMemory : Type 0 where
  -- what was written
  pub bytes : List ℕ
  -- how many more bytes it takes
  pub room : ℕ
  -- the numbers of the calls that are to fail
  pub failing : List ℕ
  pub calls : ℕ
  pub faults : ℕ

-- a sink that was just made
abbrev pub new_sink : ℕ → List ℕ → SinkInMemory
new_sink room failing = record { bytes = []; room = room; failing = failing; calls = 0; faults = 0 }

-- the next write fails: it is listed, or none of its bytes fits
abbrev pub write_fails : SinkInMemory → List ℕ → Bool
write_fails s bytes = is_listed s.failing s.calls || (s.room == 0 && nat_lt 0 (length bytes))

-- how many of the bytes fit
abbrev pub fitting : SinkInMemory → List ℕ → ℕ
fitting s bytes = min (length bytes) s.room

-- a write that doesn't fail took n of the bytes
abbrev pub after_write : SinkInMemory → List ℕ → ℕ → SinkInMemory
after_write s bytes n = record s { bytes = s.bytes ++ take n bytes; room = s.room - n; calls = counted s.calls }

-- a write failed
abbrev pub after_fault : SinkInMemory → SinkInMemory
after_fault s = record s { calls = counted s.calls; faults = counted s.faults }
