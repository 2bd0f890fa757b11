use Rattle.scenario_reading.proofs.Settings.{config_read}
use Rattle.scenario_reading.proofs.files.config_at.Goals as goal

pub returns-clause-follows : goal.returns-clause-follows
returns-clause-follows g c =
    rw c.in_ok-named.ensures
    (config_read _ c.args.file.now c.args.entry.now c.in_ok-path.path _ c.in_ok-bytes.bytes.items _ c.in_ok-config.config c.in_ok-path.ensures c.as_str.ensures c.in_ok-bytes.ensures.follows c.deref.ensures.value c.in_ok-config.ensures.says)
