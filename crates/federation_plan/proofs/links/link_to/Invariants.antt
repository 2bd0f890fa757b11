use Rattle.std.proofs.Common.{◌≡◌, ℕ, take, length}
use Rattle.std.specs.Prelude.{◌||◌, ◌&&◌, nat_eq}
use Rattle.std.specs.HashMap.{get_by_text}
use Rattle.dependency_paths.specs.Links.{linked}
use Rattle.federation_plan.specs.Interfaces.{name_fed}
use Rattle.federation_plan.proofs.links.link_to.Given as goal

abbrev pub invariant-loop-name : goal.invariant-loop-name
invariant-loop-name l = record {
  count : length l.links ≡ length l.fn.links;
  links : (a f : ℕ) → linked l.links a f ≡ (linked l.fn.links a f || (nat_eq a l.from && name_fed (get_by_text l.names) (take l.name-index l.targets) f));
}
