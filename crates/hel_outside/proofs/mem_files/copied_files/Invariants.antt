use Rattle.std.proofs.Common.{◌≡◌, map, take}
use Rattle.hel_outside.proofs.mem_files.copied_files.Given as goal

-- a copy of each file before the index
abbrev pub invariant-loop-path : goal.invariant-loop-path
invariant-loop-path l =
    l.copies.items ≡ map (λ f. record { path = f.0.now; bytes = f.1.now }) (take l.path-index l.files)
