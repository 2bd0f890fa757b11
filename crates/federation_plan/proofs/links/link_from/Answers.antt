use Rattle.std.proofs.Common.{◌∙◌, arith, List, ℕ}
use Rattle.std.specs.HashMap.{get_by_text}
use Rattle.federation_plan.specs.Interfaces.{is_of}
use Rattle.federation_plan.proofs.Joined.{names_joined}
use Rattle.federation_plan.proofs.links.link_from.Goals as goal

pub loop-name-preserved : goal.loop-name-preserved
loop-name-preserved c = record {
  count = c.link_name.ensures.count ∙ c.loop-name.invariant.count;
  links = λ a f. names_joined (λ (name : List ℕ). is_of a (get_by_text c.args.names.now name)) c.args.targets.now c.loop-name.name-index c.name-item.result _ _ _ _
      (omega arith) c.name-item.is (c.loop-name.invariant.links a f) (c.link_name.ensures.links a f);
}
