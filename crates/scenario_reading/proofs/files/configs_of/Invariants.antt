use Rattle.std.proofs.Common.{◌≡◌, ℕ, List, IfSome, drop, length}
use Rattle.hel_lists.specs.Members.{Each}
use Rattle.fed_script.specs.Script.{IsCourse}
use Rattle.fed_config.specs.declared.config.FederateConfig.{FederateConfig}
use Rattle.scenario_reading.specs.Order.{for_each}
use Rattle.scenario_reading.specs.Reading.{config_at}
use Rattle.scenario_reading.proofs.Orders.{Continues}
use Rattle.scenario_reading.proofs.files.configs_of.Given as goal

-- how the reading goes on from here is how it goes as a whole; no read has failed, and the files hold what they held
abbrev pub invariant-loop-entry : goal.invariant-loop-entry
invariant-loop-entry g l =
    let files = g.F.Files in
    record {
      continues : Continues (files.content l.fn.files) (for_each (config_at l.file) l.entries) (for_each (config_at l.file) (drop l.entry-index l.entries)) l.all;
      each : length l.all ≡ l.entry-index;
      rules : Each (λ (c : FederateConfig). IfSome c.script IsCourse) l.all;
      quiet : files.faults l.files ≡ files.faults l.fn.files;
      same : (path : List ℕ) → files.content l.files path ≡ files.content l.fn.files path;
    }
