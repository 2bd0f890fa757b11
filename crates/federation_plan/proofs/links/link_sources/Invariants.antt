use Rattle.std.proofs.Common.{◌≡◌, ℕ, take, length}
use Rattle.std.specs.Prelude.{◌||◌, ◌&&◌, nat_eq}
use Rattle.std.specs.List.{list_any}
use Rattle.std.specs.HashMap.{get_by_text}
use Rattle.dependency_paths.specs.Links.{linked}
use Rattle.federation_plan.specs.Tables.{rerouted_at}
use Rattle.federation_plan.specs.Links.{is_sender}
use Rattle.federation_plan.proofs.links.link_sources.Given as goal

abbrev pub invariant-loop-name : goal.invariant-loop-name
invariant-loop-name l = record {
  count : length l.links ≡ length l.fn.links;
  links : (a f : ℕ) → linked l.links a f ≡ (linked l.fn.links a f || (nat_eq f l.to && list_any (λ name. is_sender (rerouted_at l.rerouted) a (get_by_text l.endpoints name)) (take l.name-index l.sources)));
}
