use Rattle.std.specs.HashMap.{get_by_text}
use Rattle.federation_plan.specs.Refusal.{other_kind}
use Rattle.federation_plan.proofs.Firsts.{IsLeft}
use Rattle.federation_plan.proofs.refusal.first_other.Given as goal

abbrev pub invariant-loop-name : goal.invariant-loop-name
invariant-loop-name l = IsLeft (other_kind (get_by_text l.publications) l.federates l.kind) l.name-index l.targets
