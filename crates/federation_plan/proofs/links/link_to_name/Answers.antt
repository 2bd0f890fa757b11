use Rattle.std.proofs.Common.{sym}
use Rattle.federation_plan.proofs.links.link_to_name.Goals as goal

pub link-requires-clause-to : goal.link-requires-clause-to
link-requires-clause-to c = c.requires.known c.as_str.result.now c.in-Some.at.now (sym c.in-Some.ensures.value)
