use Rattle.std.proofs.Common.{◌≡◌, Option, IfSome}
use Rattle.fed_script.specs.Script.{Course, IsCourse}
use Rattle.fed_config.specs.declared.config.FederateConfig.{FederateConfig}
use Rattle.scenario_reading.specs.Fitting.{scripts_of}
use Rattle.scenario_reading.proofs.Members.{each_map}
use Rattle.scenario_reading.proofs.fitting.setting_of.Goals as goal

pub returns-clause-rules : goal.returns-clause-rules
returns-clause-rules c =
    let are : c.in_ok-federates.scripts ≡ scripts_of c.args.configs = c.in_ok-federates.ensures.scripts in
    rw are (each_map (λ (s : Option Course). IfSome s IsCourse) (λ (f : FederateConfig). f.script) c.args.configs c.requires.rules)
