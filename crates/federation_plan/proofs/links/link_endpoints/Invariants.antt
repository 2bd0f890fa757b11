use Rattle.std.proofs.Common.{◌≡◌, length}
use Rattle.std.specs.HashMap.{get_by_text}
use Rattle.dependency_paths.specs.Links.{linked}
use Rattle.federation_plan.specs.Tables.{rerouted_at}
use Rattle.federation_plan.specs.Links.{sends}
use Rattle.federation_plan.proofs.Joined.{IsJoiningIn}
use Rattle.federation_plan.proofs.links.link_endpoints.Given as goal

abbrev pub invariant-loop-index : goal.invariant-loop-index
invariant-loop-index l = record {
  count : length l.links ≡ length l.fn.links;
  links : IsJoiningIn (sends (get_by_text l.endpoints) l.federates (rerouted_at l.rerouted)) (linked l.fn.links) (linked l.links) l.from l.index l.federate.endpoints;
}
