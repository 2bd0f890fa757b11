use Rattle.std.proofs.Common.{◌∙◌}
use Rattle.std.proofs.lemmas.Result.{err_from_is_err_and}
use Rattle.scenario_reading.specs.Fitting.{setting_seen}
use Rattle.scenario_reading.proofs.Steps.{said_counts}
use Rattle.scenario_reading.proofs.Settings.{runner_unread, configs_unread, setting_read}
use Rattle.scenario_reading.proofs.reading.read_setting.Goals as goal

pub returns-in_err-runner-clause-follows : goal.returns-in_err-runner-clause-follows
returns-in_err-runner-clause-follows g c =
    let p = err_from_is_err_and c.from_residual.result c.from_residual.ensures.1 in
    rw (p.1, p.2) (runner_unread _ _ _ c.in_err-runner.ensures.follows)

pub returns-in_err-configs-clause-follows : goal.returns-in_err-configs-clause-follows
returns-in_err-configs-clause-follows g c =
    let p = err_from_is_err_and c.from_residual-in_err-configs.result c.from_residual-in_err-configs.ensures.1 in
    rw (p.1, p.2)
    (configs_unread _ _ c.args.file.now c.in_ok-runner.runner _ _ c.in_ok-runner.ensures.follows c.in_ok-runner.ensures.same c.as_slice.ensures c.in_err-configs.ensures.follows)

pub returns-clause-follows : goal.returns-clause-follows
returns-clause-follows g c =
    setting_read _ _ c.args.file.now c.in_ok-runner.runner _ c.in_ok-configs.configs _ c.in_ok-runner.ensures.follows c.in_ok-runner.ensures.same c.as_slice.ensures
    c.in_ok-configs.ensures.follows c.setting_of.ensures.says

pub returns-clause-faults : goal.returns-clause-faults
returns-clause-faults g c =
    said_counts setting_seen _ _ _ _ _ c.setting_of.ensures.says (c.in_ok-configs.ensures.faults ∙ c.in_ok-runner.ensures.faults)
