use Rattle.std.proofs.Common.{◌≡◌, ◌-◌, ◌++◌, length, string_bytes}
use Rattle.std.specs.List.{flat_map, range_with_len}
use Rattle.log_text.specs.Check.{check_line}
use Rattle.log_text.proofs.check.write_federates.Given as goal

-- what is written so far and the lines of the other federates are the lines of all
abbrev pub invariant-loop-number : goal.invariant-loop-number
invariant-loop-number l =
    string_bytes l.out ++ flat_map (check_line l.plan) (range_with_len l.number (length l.plan.federates - l.number))
    ≡ string_bytes l.fn.out ++ flat_map (check_line l.plan) (range_with_len 0 (length l.plan.federates))
