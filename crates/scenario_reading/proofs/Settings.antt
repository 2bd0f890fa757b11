-- What a runner file sets up, read part by part.
use Rattle.std.proofs.Common.{◌≡◌, ℕ, List, Option, Result, Ok, Err, subst, sym, refl}
use Rattle.fed_config.specs.declared.config.FederateConfig.{FederateConfig}
use Rattle.fed_config.specs.Federate.{config_of}
use Rattle.runner_config.specs.declared.reading.Entry.{Entry}
use Rattle.runner_config.specs.declared.reading.Runner.{Runner}
use Rattle.scenario_reading.specs.declared.unread.Unread.{Unread}
use Rattle.scenario_reading.specs.declared.scene.Setting.{Setting}
use Rattle.scenario_reading.specs.declared.scene.Scenario.{Scenario}
use Rattle.scenario_reading.specs.Order.{ends, for_each, bytes_of, Reads}
use Rattle.scenario_reading.specs.Following.{Follows}
use Rattle.scenario_reading.specs.Verdict.{Says}
use Rattle.scenario_reading.specs.Fitting.{setting_seen, scenario_seen, setting_of, scenario_of}
use Rattle.scenario_reading.specs.Reading.{path_told, config_told, named_by, runner_at, config_at, setting_at, scenario_at}
use Rattle.scenario_reading.proofs.Orders.{reads_same, reads_then, follows_same}
use Rattle.scenario_reading.proofs.Steps.{first_unread, then_follows, said_follows}

abbrev Content : Type 0
Content = List ℕ → Option (List ℕ)

-- a federate file is read
pub config_read : (content : Content) (file : List ℕ) (entry : Entry) (path spelled held given : List ℕ) (config : FederateConfig)
    → path_told file entry entry.config ≡ Ok path → spelled ≡ path → Reads content (bytes_of spelled) (Ok held) → given ≡ held
    → config_told path (config_of given) ≡ Ok config → Reads content (config_at file entry) (Ok (named_by entry.name config))
unfolding config_at
config_read content file entry path spelled held given config beside is read are said =
    let there = subst (λ (p : List ℕ). Reads content (bytes_of p) (Ok held)) is read in
    let told = subst (λ (h : List ℕ). config_told path (config_of h) ≡ Ok config) are said in
    reads_then content (ends (path_told file entry entry.config)) _ path (Ok (named_by entry.name config)) (sym beside)
    (reads_then content (bytes_of path) _ held (Ok (named_by entry.name config)) there
    (reads_then content (ends (config_told path (config_of held))) _ config (Ok (named_by entry.name config)) (sym told) refl))

-- the runner file isn't read
pub runner_unread : (content : Content) (file : List ℕ) (f : Unread)
    → Follows {X = Runner} (λ r. r) content (runner_at file) (Err f) → Follows setting_seen content (setting_at file) (Err f)
unfolding setting_at
runner_unread content file f read = first_unread {X = Runner} (λ r. r) setting_seen content (runner_at file) _ f read

-- a federate file isn't read
pub configs_unread : (content now : Content) (file : List ℕ) (runner : Runner) (entries : List Entry) (f : Unread)
    → Reads content (runner_at file) (Ok runner) → ((path : List ℕ) → now path ≡ content path) → entries ≡ runner.entries
    → Follows {X = List FederateConfig} (λ all. all) now (for_each (config_at file) entries) (Err f) → Follows setting_seen content (setting_at file) (Err f)
unfolding setting_at
configs_unread content now file runner entries f read same are unread =
    let there = subst (λ (es : List Entry). Follows {X = List FederateConfig} (λ all. all) now (for_each (config_at file) es) (Err f)) are unread in
    then_follows setting_seen content (runner_at file) _ runner (Err f) read
    (first_unread {X = List FederateConfig} (λ all. all) setting_seen content (for_each (config_at file) runner.entries) _ f
    (follows_same (λ all. all) now content (for_each (config_at file) runner.entries) (Err f) same there))

-- all files are read
pub setting_read : (content now : Content) (file : List ℕ) (runner : Runner) (entries : List Entry) (configs : List FederateConfig) (result : Result Setting Unread)
    → Reads content (runner_at file) (Ok runner) → ((path : List ℕ) → now path ≡ content path) → entries ≡ runner.entries
    → Reads now (for_each (config_at file) entries) (Ok configs) → Says setting_seen (setting_of file runner configs) result
    → Follows setting_seen content (setting_at file) result
unfolding setting_at
setting_read content now file runner entries configs result read same are files says =
    let there = subst (λ (es : List Entry). Reads now (for_each (config_at file) es) (Ok configs)) are files in
    then_follows setting_seen content (runner_at file) _ runner result read
    (then_follows setting_seen content (for_each (config_at file) runner.entries) _ configs result
    (reads_same now content (for_each (config_at file) runner.entries) (Ok configs) same there)
    (said_follows setting_seen content (setting_of file runner configs) result says))

-- there is no setting
pub setting_unread : (content : Content) (file : List ℕ) (f : Unread)
    → Follows setting_seen content (setting_at file) (Err f) → Follows scenario_seen content (scenario_at file) (Err f)
unfolding scenario_at
setting_unread content file f read = first_unread setting_seen scenario_seen content (setting_at file) _ f read

-- there is one
pub scenario_read : (content : Content) (file : List ℕ) (setting : Setting) (result : Result Scenario Unread)
    → Reads content (setting_at file) (Ok (setting_seen setting)) → Says scenario_seen (scenario_of (setting_seen setting)) result
    → Follows scenario_seen content (scenario_at file) result
unfolding scenario_at
scenario_read content file setting result read says =
    then_follows scenario_seen content (setting_at file) _ (setting_seen setting) result read
    (said_follows scenario_seen content (scenario_of (setting_seen setting)) result says)
