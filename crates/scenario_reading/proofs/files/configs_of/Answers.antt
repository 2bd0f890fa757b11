use Rattle.std.proofs.Common.{rules, arith, length-append, IfSome}
use Rattle.std.proofs.lemmas.Result.{err_from_is_err_and}
use Rattle.fed_script.specs.Script.{IsCourse}
use Rattle.fed_config.specs.declared.config.FederateConfig.{FederateConfig}
use Rattle.scenario_reading.proofs.ForEach.{one_read, one_unread, all_read}
use Rattle.hel_lists.proofs.Members.{each_pushed}
use Rattle.scenario_reading.proofs.files.configs_of.Goals as goal

pub returns-in_err-config-clause-follows : goal.returns-in_err-config-clause-follows
returns-in_err-config-clause-follows g c =
    let kept = c.loop-entry.invariant in
    let p = err_from_is_err_and c.from_residual.result c.from_residual.ensures.1 in
    rw (p.1, p.2)
    (one_unread _ _ _ c.args.entries.now c.loop-entry.entry-index c.entry-item.result _ _ _ c.loop-entry-test.true c.entry-item.is kept.same kept.continues c.in_err-config.ensures.follows)

pub loop-entry-preserved : goal.loop-entry-preserved
loop-entry-preserved g c =
    let kept = c.loop-entry.invariant in
    record {
      continues = rw c.in_ok-push.ensures.ok
          (one_read _ _ _ c.args.entries.now c.loop-entry.entry-index c.entry-item.result _ _ _ c.loop-entry-test.true c.entry-item.is kept.same kept.continues c.in_ok-config.ensures.follows);
      each = rw (c.in_ok-push.ensures.ok, length-append) (omega arith);
      rules = rw c.in_ok-push.ensures.ok (each_pushed (λ (f : FederateConfig). IfSome f.script IsCourse) _ _ kept.rules c.in_ok-config.ensures.rules);
      quiet = search rules;
      same = search rules;
    }

pub returns-clause-follows : goal.returns-clause-follows
returns-clause-follows g c =
    all_read _ _ c.args.entries.now c.loop-entry.entry-index _ _ c.loop-entry-test.false c.loop-entry.invariant.continues
