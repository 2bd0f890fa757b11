use Rattle.std.proofs.Common.{◌∙◌, ap, List, ℕ, Option}
use Rattle.std.specs.HashMap.{get_by_text}
use Rattle.hel_values.specs.declared.EndRef.{EndRef}
use Rattle.federation_plan.specs.Interfaces.{endpoint_of, refs_naming, filters}
use Rattle.federation_plan.specs.Chains.{sources, destinations}
use Rattle.federation_plan.proofs.Drafts.{ends_known, same_meaning}
use Rattle.federation_plan.proofs.draft.draft_of.Goals as goal

pub filters_table-requires-clause-known : goal.filters_table-requires-clause-known
filters_table-requires-clause-known c = ends_known _ (get_by_text c.in_ok-endpoints.endpoints) c.in_ok-endpoints.ensures

pub filters_table-requires-2-clause-known : goal.filters_table-requires-2-clause-known
filters_table-requires-2-clause-known c = ends_known _ (get_by_text c.in_ok-endpoints.endpoints) c.in_ok-endpoints.ensures

pub returns : goal.returns
returns c =
    let same = same_meaning (get_by_text c.in_ok-endpoints.endpoints) (endpoint_of c.args.federates.now) c.in_ok-endpoints.ensures in
    record {
      publications_are = c.in_ok-publications.ensures;
      endpoints_are = c.in_ok-endpoints.ensures;
      source_places = c.in_ok-sources.ensures.places;
      sources_are = λ e. c.in_ok-sources.ensures.entries e ∙ ap (λ (m : List ℕ → Option EndRef). refs_naming m sources (filters c.args.federates.now) e) same;
      destination_places = c.in_ok-destinations.ensures.places;
      destinations_are = λ e. c.in_ok-destinations.ensures.entries e ∙ ap (λ (m : List ℕ → Option EndRef). refs_naming m destinations (filters c.args.federates.now) e) same;
    }
