use Rattle.std.proofs.Common.{◌∙◌, ap, List, ℕ, Option}
use Rattle.std.specs.HashMap.{get_by_text}
use Rattle.hel_values.specs.declared.EndRef.{EndRef}
use Rattle.federation_plan.specs.declared.chains.EndChains.{EndChains}
use Rattle.federation_plan.specs.Interfaces.{publication_of, refs_naming, inputs}
use Rattle.federation_plan.specs.Chains.{sources, destinations}
use Rattle.federation_plan.proofs.Accepted.{accepted, short}
use Rattle.federation_plan.proofs.Drafts.{pubs_known, same_meaning, side_is, source_is, destination_is}
use Rattle.federation_plan.proofs.draft.tables_of.Goals as goal

pub targets_table-requires-clause-known : goal.targets_table-requires-clause-known
targets_table-requires-clause-known c = pubs_known _ (get_by_text c.args.draft.publications) c.requires.is.publications_are

pub chains_table-requires-clause-sources : goal.chains_table-requires-clause-sources
chains_table-requires-clause-sources c = side_is _ _ sources c.requires.is.source_places c.requires.is.sources_are
    (λ e within. (short _ e (accepted _ c.requires.no_refusal) within).0)

pub chains_table-requires-clause-destinations : goal.chains_table-requires-clause-destinations
chains_table-requires-clause-destinations c = side_is _ _ destinations c.requires.is.destination_places c.requires.is.destinations_are
    (λ e within. (short _ e (accepted _ c.requires.no_refusal) within).1)

pub returns : goal.returns
returns c =
    let same = same_meaning (get_by_text c.args.draft.publications) (publication_of c.args.federates.now) c.requires.is.publications_are in
    record {
      endpoints_are = c.requires.is.endpoints_are;
      target_places = c.in_ok-targets.ensures.places;
      targets_are = λ p. c.in_ok-targets.ensures.entries p ∙ ap (λ (m : List ℕ → Option EndRef). refs_naming m (λ i. i.targets) (inputs c.args.federates.now) p) same;
      chain_places = c.in_ok-chains.ensures.places;
      sources_are = λ e within. ap (λ (x : EndChains). x.source) (c.in_ok-chains.ensures.chains e within)
          ∙ source_is c.args.federates.now (get_by_text c.args.draft.endpoints) _ e c.requires.is.endpoints_are (c.requires.is.sources_are e);
      destinations_are = λ e within. ap (λ (x : EndChains). x.destination) (c.in_ok-chains.ensures.chains e within)
          ∙ destination_is c.args.federates.now (get_by_text c.args.draft.endpoints) _ e c.requires.is.endpoints_are (c.requires.is.destinations_are e);
    }
