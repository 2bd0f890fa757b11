use Rattle.std.proofs.Common.{◌∙◌, ap, sym, subst, ℕ, ◌<◌, refl}
use Rattle.std.specs.HashMap.{get_by_text}
use Rattle.interface_names.specs.declared.records.FederateRecord.{FederateRecord}
use Rattle.dependency_paths.specs.Links.{linked}
use Rattle.federation_plan.specs.Interfaces.{IsEndpoint}
use Rattle.federation_plan.specs.Chains.{sources}
use Rattle.federation_plan.specs.Tables.{rerouted_at}
use Rattle.federation_plan.specs.Depends.{last_reroute}
use Rattle.federation_plan.proofs.Named.{federate_within}
use Rattle.federation_plan.proofs.Depending.{last_known, joined_are, ancestors_are}
use Rattle.federation_plan.proofs.Accepted.{accepted, short}
use Rattle.federation_plan.proofs.Drafts.{pubs_known, ends_known, pubs_below, ends_below, side_is, source_is}
use Rattle.federation_plan.proofs.draft.ancestors_of.Goals as goal

pub rerouted_table-requires-clause-sources : goal.rerouted_table-requires-clause-sources
rerouted_table-requires-clause-sources c = side_is _ _ sources c.requires.is.source_places c.requires.is.sources_are
    (λ e within. (short _ e (accepted _ c.requires.no_refusal) within).0)

pub link_values-requires-clause-known : goal.link_values-requires-clause-known
link_values-requires-clause-known c = pubs_below c.args.federates.now _ _ (pubs_known _ (get_by_text c.args.draft.now.publications) c.requires.is.publications_are) c.in_ok-links.ensures.count

pub link_senders-requires-clause-known : goal.link_senders-requires-clause-known
link_senders-requires-clause-known c = ends_below c.args.federates.now _ _ (ends_known _ (get_by_text c.args.draft.now.endpoints) c.requires.is.endpoints_are)
    (c.link_values.ensures.count ∙ c.in_ok-links.ensures.count)

pub link_receivers-requires-clause-known : goal.link_receivers-requires-clause-known
link_receivers-requires-clause-known c = ends_below c.args.federates.now _ _ (ends_known _ (get_by_text c.args.draft.now.endpoints) c.requires.is.endpoints_are)
    (c.link_senders.ensures.count ∙ c.link_values.ensures.count ∙ c.in_ok-links.ensures.count)

pub link_receivers-requires-clause-places : goal.link_receivers-requires-clause-places
link_receivers-requires-clause-places c = λ name e means. subst (λ (n : ℕ). e.index < n) (sym (c.in_ok-rerouted.ensures.places e.fed))
    (ends_known _ (get_by_text c.args.draft.now.endpoints) c.requires.is.endpoints_are name e means)

pub link_senders-requires-clause-ends : goal.link_senders-requires-clause-ends
link_senders-requires-clause-ends c = λ e r is.
    let known : IsEndpoint c.args.federates.now r = last_known c.args.federates.now e r (accepted _ c.requires.no_refusal)
    (sym (c.in_ok-rerouted.ensures.ends e ∙ ap last_reroute (source_is c.args.federates.now (get_by_text c.args.draft.now.endpoints) _ e c.requires.is.endpoints_are (c.requires.is.sources_are e))) ∙ is) in
    subst (λ (n : ℕ). r.fed < n) (sym (c.link_values.ensures.count ∙ c.in_ok-links.ensures.count))
    (federate_within (λ (f : FederateRecord). f.endpoints) c.args.federates.now r.fed r.index refl known)

pub returns : goal.returns
returns c = ancestors_are c.args.federates.now _ _ _ (c.link_receivers.ensures.count ∙ c.link_senders.ensures.count ∙ c.link_values.ensures.count ∙ c.in_ok-links.ensures.count)
    (joined_are c.args.federates.now (get_by_text c.args.draft.now.publications) (get_by_text c.args.draft.now.endpoints) (rerouted_at c.in_ok-rerouted.rerouted)
    (linked c.in_ok-links.links) (linked c.link_values.new.links) (linked c.link_senders.new.links) (linked c.link_receivers.new.links)
    (accepted _ c.requires.no_refusal) c.requires.is.publications_are c.requires.is.endpoints_are
    (λ e. c.in_ok-rerouted.ensures.ends e ∙ ap last_reroute (source_is c.args.federates.now (get_by_text c.args.draft.now.endpoints) _ e c.requires.is.endpoints_are (c.requires.is.sources_are e)))
    c.in_ok-links.ensures.links c.link_values.ensures.links c.link_senders.ensures.links c.link_receivers.ensures.links)
    c.in_ok-ancestors.ensures
