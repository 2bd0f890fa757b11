use Rattle.std.proofs.Common.{◌≡◌, ◌++◌, ℕ, drop, string_bytes}
use Rattle.std.specs.List.{flat_map, enumerate_from}
use Rattle.machine_laws.specs.declared.logs.FedLog.{FedLog}
use Rattle.log_text.specs.Text.{fed_text, logs_text}
use Rattle.log_text.proofs.logs.write_feds.Given as goal

-- what is written so far and the text of the other logs are the text of all
abbrev pub invariant-loop-number : goal.invariant-loop-number
invariant-loop-number l =
    string_bytes l.out ++ flat_map (λ (numbered : ℕ × FedLog). fed_text l.federates numbered.0 numbered.1) (enumerate_from l.number (drop l.number l.logs))
    ≡ string_bytes l.fn.out ++ logs_text l.federates l.logs
