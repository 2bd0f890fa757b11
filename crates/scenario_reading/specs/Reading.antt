-- The order of reading: FILE, then each entry's federate file, and then what speaks against their federation.
use Rattle.std.specs.Prelude.{ℕ, if◌then◌else◌, List, Option, Some, None, Ok, Err}
use Rattle.fed_script.specs.Script.{Course}
use Rattle.json_reading.specs.Reading.{Read}
use Rattle.fed_config.specs.declared.config.FederateConfig.{FederateConfig}
use Rattle.fed_config.specs.Federate.{config_of}
use Rattle.runner_config.specs.declared.reading.Entry.{Entry}
use Rattle.runner_config.specs.declared.reading.Runner.{Runner}
use Rattle.runner_config.specs.Told.{Told}
use Rattle.runner_config.specs.Paths.{folder_of, joined}
use Rattle.runner_config.specs.Runner.{runner_of}
use Rattle.scenario_reading.specs.declared.refusal.Refusal.{Refusal}
use Rattle.scenario_reading.specs.Verdict.{Verdict}
use Rattle.scenario_reading.specs.Order.{Order, ends, ◌>>=◌, for_each, bytes_of}
use Rattle.scenario_reading.specs.Fitting.{Scene, setting_of, scenario_of}

abbrev pub runner_told : List ℕ → Told Runner → Verdict Runner
runner_told path (Ok runner) = Ok runner
runner_told path (Err refusal) = Err (Refusal.Runner path refusal)

abbrev pub config_told : List ℕ → Read FederateConfig → Verdict FederateConfig
config_told path (Ok config) = Ok config
config_told path (Err refusal) = Err (Refusal.Config path refusal)

abbrev pub path_told : List ℕ → Entry → Option (List ℕ) → Verdict (List ℕ)
path_told file entry None = Err (Refusal.NoConfig file entry.place)
path_told file entry (Some config) = Ok (joined (joined (folder_of file) entry.directory) config)

-- a federate that its file doesn't name has its entry's name
abbrev pub named_by : List ℕ → FederateConfig → FederateConfig
named_by name c = if c.named then c else record c { federate = record c.federate { name = name } }

abbrev pub runner_at : List ℕ → Order Runner
runner_at file = do
  held ← bytes_of file
  ends (runner_told file (runner_of held))

-- the federate file of an entry
unfoldable pub config_at : List ℕ → Entry → Order FederateConfig
config_at file entry = do
  path ← ends (path_told file entry entry.config)
  held ← bytes_of path
  config ← ends (config_told path (config_of held))
  ends (Ok (named_by entry.name config))

-- what a runner file and its federates' files set up
unfoldable pub setting_at : List ℕ → Order (Scene (Option Course))
setting_at file = do
  runner ← runner_at file
  configs ← for_each (config_at file) runner.entries
  ends (setting_of file runner configs)

-- the same where each federate is played by its script
unfoldable pub scenario_at : List ℕ → Order (Scene Course)
scenario_at file = do
  setting ← setting_at file
  ends (scenario_of setting)
