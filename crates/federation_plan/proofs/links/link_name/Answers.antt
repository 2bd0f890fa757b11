use Rattle.std.proofs.Common.{sym}
use Rattle.federation_plan.proofs.links.link_name.Goals as goal

pub link-requires-clause-from : goal.link-requires-clause-from
link-requires-clause-from c = c.requires.known c.as_str.result.now c.in-Some.at.now (sym c.in-Some.ensures.value)
