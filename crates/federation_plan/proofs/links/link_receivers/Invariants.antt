use Rattle.std.proofs.Common.{◌≡◌, length}
use Rattle.std.specs.HashMap.{get_by_text}
use Rattle.dependency_paths.specs.Links.{linked}
use Rattle.federation_plan.specs.Tables.{rerouted_at}
use Rattle.federation_plan.specs.Links.{hears}
use Rattle.federation_plan.proofs.Joined.{IsJoiningFrom}
use Rattle.federation_plan.proofs.links.link_receivers.Given as goal

abbrev pub invariant-loop-f : goal.invariant-loop-f
invariant-loop-f l = record {
  count : length l.links ≡ length l.fn.links;
  links : IsJoiningFrom (hears (get_by_text l.endpoints) (rerouted_at l.rerouted)) (λ fed. fed.endpoints) (linked l.fn.links) (linked l.links) l.f l.federates;
}
