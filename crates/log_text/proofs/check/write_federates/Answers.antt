use Rattle.std.proofs.Common.{length, arith}
use Rattle.log_text.specs.Check.{check_line}
use Rattle.log_text.proofs.Checked.{one_more}
use Rattle.log_text.proofs.check.write_federates.Goals as goal

pub loop-number-preserved : goal.loop-number-preserved
loop-number-preserved c =
    one_more (check_line c.args.plan.now) (length c.args.plan.now.federates) c.loop-number.number _ _ _ (omega arith) c.loop-number.invariant c.in_ok-write_federate.ensures
