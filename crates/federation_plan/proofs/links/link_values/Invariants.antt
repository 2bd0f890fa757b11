use Rattle.std.proofs.Common.{◌≡◌, length}
use Rattle.std.specs.HashMap.{get_by_text}
use Rattle.dependency_paths.specs.Links.{linked}
use Rattle.federation_plan.specs.Links.{takes}
use Rattle.federation_plan.proofs.Joined.{IsJoiningFrom}
use Rattle.federation_plan.proofs.links.link_values.Given as goal

abbrev pub invariant-loop-f : goal.invariant-loop-f
invariant-loop-f l = record {
  count : length l.links ≡ length l.fn.links;
  links : IsJoiningFrom (takes (get_by_text l.publications)) (λ fed. fed.inputs) (linked l.fn.links) (linked l.links) l.f l.federates;
}
