use Rattle.std.proofs.Common.{rules, ◌≡◌, ℕ, List, Option, Some, None}
use Rattle.hel_outside.proofs.mem_files.MemFiles.read.Goals as goal

-- where bytes are found there isn't nothing
not_none : (o : Option (List ℕ)) (bytes : List ℕ) → o ≡ Some bytes → o ≡ None → ⊥
not_none o bytes found none = cc

pub returns-then-bytes-gt-FILE_LIMIT-clause-fails :
    goal.returns-then-bytes-gt-FILE_LIMIT-clause-fails
returns-then-bytes-gt-FILE_LIMIT-clause-fails c =
    λ none. absurd (not_none _ c.in-Some.bytes.now (search rules) none)

pub returns-clause-fails : goal.returns-clause-fails
returns-clause-fails c = λ none. absurd (not_none _ c.in-Some.bytes.now (search rules) none)
