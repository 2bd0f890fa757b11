-- Files in memory.
use Rattle.std.specs.Prelude.{ℕ, List, [], Option, None, find, if◌then◌else◌}
use Rattle.std.specs.Option.{option_map}
use Rattle.std.specs.Str.{bytes_eq}
use Rattle.hel_outside.specs.Calls.{counted, is_listed}
use Rattle.hel_outside.specs.declared.mem_files.MemFile.{MemFile}

pub record FilesInMemory : Type 0 where
  pub files : List MemFile
  -- the numbers of the calls that are to fail
  pub failing : List ℕ
  pub calls : ℕ
  pub faults : ℕ
  -- the path of the last read that failed
  pub failed_path : List ℕ

-- files that were just made
abbrev pub new_files : List MemFile → List ℕ → FilesInMemory
new_files files failing = record { files = files; failing = failing; calls = 0; faults = 0; failed_path = [] }

-- what stands at a path: the bytes of the first file that has it
abbrev pub content_at : List MemFile → List ℕ → Option (List ℕ)
content_at files path = option_map (λ f. f.bytes) (find (λ f. bytes_eq f.path path) files)

-- what the next read finds at a path: nothing where it is listed, or where no file has the path
abbrev pub found_at : FilesInMemory → List ℕ → Option (List ℕ)
found_at s path = if is_listed s.failing s.calls then None else content_at s.files path

-- a read was answered without a fault
abbrev pub after_read : FilesInMemory → FilesInMemory
after_read s = record s { calls = counted s.calls }

-- a read of this path failed
abbrev pub after_fault : FilesInMemory → List ℕ → FilesInMemory
after_fault s path = record s { calls = counted s.calls; faults = counted s.faults; failed_path = path }
