use Rattle.std.specs.Prelude.{decimal}
use Rattle.log_text.proofs.Checked.{two_pieces}
use Rattle.log_text.proofs.check.write_line.Goals as goal

pub returns : goal.returns
returns c = two_pieces _ _ _ (decimal c.args.number) c.args.name.now c.args.core.now (decimal c.args.ancestors) c.in_ok-write_head.ensures c.in_ok-write_rest.ensures
