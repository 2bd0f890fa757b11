use Rattle.std.proofs.Common.{◌≡◌, length}
use Rattle.std.specs.HashMap.{get_by_text}
use Rattle.dependency_paths.specs.Links.{linked}
use Rattle.federation_plan.specs.Tables.{rerouted_at}
use Rattle.federation_plan.specs.Links.{hears}
use Rattle.federation_plan.proofs.Joined.{IsJoiningIn}
use Rattle.federation_plan.proofs.links.link_hearers.Given as goal

abbrev pub invariant-loop-end : goal.invariant-loop-end
invariant-loop-end l = record {
  count : length l.links ≡ length l.fn.links;
  links : IsJoiningIn (hears (get_by_text l.endpoints) (rerouted_at l.rerouted)) (linked l.fn.links) (linked l.links) l.to l.end-index l.ends;
}
