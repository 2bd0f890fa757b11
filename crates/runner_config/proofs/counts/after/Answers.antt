use Rattle.runner_config.proofs.Prefixes.{strips}
use Rattle.runner_config.proofs.counts.after.Goals as goal

pub returns : goal.returns
returns c = strips c.args.prefix.now c.args.word.now c.strip_prefix.result c.strip_prefix.ensures.cases
