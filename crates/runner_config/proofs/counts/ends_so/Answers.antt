use Rattle.std.proofs.Common.{codes}
use Rattle.std.proofs.lemmas.Str.Pattern.{ends_text}
use Rattle.runner_config.proofs.counts.ends_so.Goals as goal

pub returns : goal.returns
returns c = ends_text c.ends_with.result (codes "/helics_broker") c.args.word.now c.ends_with.ensures.cases
