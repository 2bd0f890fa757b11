use Rattle.std.proofs.Common.{◌≡◌, length}
use Rattle.std.specs.HashMap.{get_by_text}
use Rattle.dependency_paths.specs.Links.{linked}
use Rattle.federation_plan.specs.Links.{takes}
use Rattle.federation_plan.proofs.Joined.{IsJoiningIn}
use Rattle.federation_plan.proofs.links.link_inputs.Given as goal

abbrev pub invariant-loop-input : goal.invariant-loop-input
invariant-loop-input l = record {
  count : length l.links ≡ length l.fn.links;
  links : IsJoiningIn (takes (get_by_text l.publications)) (linked l.fn.links) (linked l.links) l.to l.input-index l.inputs;
}
