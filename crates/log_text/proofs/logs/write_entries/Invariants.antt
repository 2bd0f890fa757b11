use Rattle.std.proofs.Common.{◌≡◌, ◌++◌, drop, string_bytes}
use Rattle.std.specs.List.{flat_map}
use Rattle.log_text.specs.Text.{entry_text}
use Rattle.log_text.proofs.logs.write_entries.Given as goal

-- what is written so far and the text of the other entries are the text of all
abbrev pub invariant-loop-entry : goal.invariant-loop-entry
invariant-loop-entry l =
    string_bytes l.out ++ flat_map (entry_text l.federates) (drop l.entry-index l.entries)
    ≡ string_bytes l.fn.out ++ flat_map (entry_text l.federates) l.entries
