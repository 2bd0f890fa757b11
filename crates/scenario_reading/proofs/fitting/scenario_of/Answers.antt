use Rattle.std.proofs.Common.{◌≡◌, ◌∙◌}
use Rattle.scenario_reading.specs.Fitting.{scripts_in}
use Rattle.scenario_reading.proofs.Scripts.{as_many, each_there}
use Rattle.scenario_reading.proofs.fitting.scenario_of.Goals as goal

pub returns-clause-each : goal.returns-clause-each
returns-clause-each c =
    as_many c.federates.result.now c.as_slice.result.now c.args.setting.scripts _ c.in_ok-check_scripts.ensures c.as_slice.ensures c.in_ok-scripts.ensures ∙ c.requires.each

pub returns-clause-rules : goal.returns-clause-rules
returns-clause-rules c =
    let are : c.in_ok-scripts.scripts ≡ scripts_in c.args.setting.scripts = c.in_ok-scripts.ensures in
    rw are (each_there c.args.setting.scripts c.requires.rules)
