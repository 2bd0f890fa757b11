use Rattle.log_text.specs.Check.{check_of}
use Rattle.log_text.proofs.Checked.{behind_nothing}
use Rattle.log_text.proofs.check.check_text.Goals as goal

pub returns : goal.returns
returns c = record {
  pair = c.wait_cycle.result;
  first = c.wait_cycle.ensures;
  is = behind_nothing _ (check_of c.args.plan.now c.wait_cycle.result) _ c.new-out.ensures.bytes c.in_ok-write_check.ensures;
}
