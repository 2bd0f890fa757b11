use Rattle.std.proofs.lemmas.Result.{err_from_is_err_and}
use Rattle.scenario_reading.specs.Fitting.{scenario_seen}
use Rattle.scenario_reading.proofs.Steps.{said_counts}
use Rattle.scenario_reading.proofs.Settings.{setting_unread, scenario_read}
use Rattle.scenario_reading.proofs.reading.read_scenario.Goals as goal

pub returns-in_err-setting-clause-follows : goal.returns-in_err-setting-clause-follows
returns-in_err-setting-clause-follows g c =
    let p = err_from_is_err_and c.from_residual.result c.from_residual.ensures.1 in
    rw (p.1, p.2) (setting_unread _ _ _ c.in_err-setting.ensures.follows)

pub returns-clause-follows : goal.returns-clause-follows
returns-clause-follows g c =
    scenario_read _ c.args.file.now c.in_ok-setting.setting _ c.in_ok-setting.ensures.follows c.scenario_of.ensures.says

pub returns-clause-faults : goal.returns-clause-faults
returns-clause-faults g c =
    said_counts scenario_seen _ _ _ _ _ c.scenario_of.ensures.says c.in_ok-setting.ensures.faults
