use Rattle.std.proofs.Common.{sym}
use Rattle.federation_plan.proofs.refusal.other_kind.Goals as goal

pub kind_of-requires : goal.kind_of-requires
kind_of-requires c = c.requires c.as_str.result.now c.in-Some.at.now (sym c.in-Some.ensures.value)
