use Rattle.std.proofs.Common.{◌≡◌, ℕ, length}
use Rattle.std.specs.Prelude.{◌||◌, ◌&&◌, nat_eq, nat_lt}
use Rattle.dependency_paths.specs.Links.{linked}
use Rattle.federation_plan.specs.Links.{has_endpoint}
use Rattle.federation_plan.proofs.links.link_all.Given as goal

abbrev pub invariant-loop-to : goal.invariant-loop-to
invariant-loop-to l = record {
  count : length l.links ≡ length l.fn.links;
  links : (a f : ℕ) → linked l.links a f ≡ (linked l.fn.links a f || (nat_eq a l.from && (nat_lt f l.to && has_endpoint l.federates f)));
}
