-- What filters make of a message of a plan, and who depends on whom by what is sent.
use Rattle.std.proofs.Common.{◌≡◌, inl, inr, ℕ, ◌+◌, ◌*◌, ◌<◌, ◌≤◌, true, List, [], ◌∷◌, length, get_or, fold, arith, refl, sym, ◌∙◌, ap, subst, Option, Some, None, eq-eqb}
use Rattle.std.specs.Prelude.{◌&&◌, nat_eq, sum_by}
use Rattle.std.specs.List.{filter_map, cons_option, last_or, position_from, list_any}
use Rattle.std.specs.Option.{option_map_or}
use Rattle.std.proofs.lemmas.Bool.{cases_lt, true≢false, or_cases, or_left, or_right, and_from, and_parts, eqb-true}
use Rattle.std.proofs.lemmas.List.{get_or_past, length-map}
use Rattle.hel_lists.specs.Members.{IsIn, Each}
use Rattle.hel_lists.proofs.Members.{in_map, in_filter, at_in}
use Rattle.helics_time.specs.Settings.{IsTerms}
use Rattle.hel_values.specs.declared.EndRef.{EndRef}
use Rattle.dependency_paths.specs.Paths.{row_of, Leads}
use Rattle.dependency_paths.specs.Paths.Leads.{by_link, by_way_of}
use Rattle.interface_names.specs.declared.records.InputRecord.{InputRecord}
use Rattle.interface_names.specs.declared.records.EndRecord.{EndRecord}
use Rattle.interface_names.specs.declared.records.FilterKind.{FilterKind}
use Rattle.interface_names.specs.declared.records.FilterKind.TheVariants.{Delay, Drop, Reroute}
use Rattle.interface_names.specs.declared.records.FederateRecord.{FederateRecord}
use Rattle.interface_names.specs.Filter.{FilterTerms, KeepsBounds}
use Rattle.machine_laws.specs.Machine.{default_terms}
use Rattle.message_filters.specs.declared.filter.Filter.{Filter}
use Rattle.message_filters.specs.declared.chain.Filtered.{Filtered}
use Rattle.message_filters.specs.declared.chain.Filtered.TheVariants.{Kept, Dropped}
use Rattle.message_filters.specs.Filter.{delay_of, reroute_of, drops}
use Rattle.message_filters.specs.Chain.{last_of, kept_of, filtered_of}
use Rattle.helics_time.specs.Time.{longest_span}
use Rattle.message_filters.specs.Limits.{most_filters}
use Rattle.hel_values.specs.Values.{same_end}
use Rattle.federation_plan.specs.Interfaces.{Interface, name_ref, name_fed, naming, refs_naming, endpoint_of, publication_of, inputs, filters, endpoints, federate_at, blank_federate, blank_filter, endpoint_at, IsEndpoint, IsInput, IsPublication}
use Rattle.federation_plan.specs.Chains.{sources, destinations, filter_of, chain_on, source_chain, destination_chain, later_by, filtered_at, may_send, reroutes}
use Rattle.federation_plan.specs.Depends.{reaches_by, reaches, by_value, by_message, depends}
use Rattle.federation_plan.specs.Plan.{IsKept, targets_of, Federation, IsFederation}
use Rattle.federation_plan.proofs.Lists.{any_to, any_from}
use Rattle.federation_plan.proofs.Named.{federate_within}
use Rattle.federation_plan.proofs.Places.{stands_at, publications_known}
use Rattle.federation_plan.proofs.Accepted.{IsAccepted, short}
use Rattle.federation_plan.proofs.Attached.{same_itself}
use Rattle.federation_plan.proofs.Depending.{last_known, from_name, from_ref, to_fed, reached, endpoint_listed}

-- ---- what records keep

kept_at : (feds : List FederateRecord) (f : ℕ) → Each IsKept feds → f < length feds → IsKept (federate_at feds f)
kept_at feds f kept below = kept (federate_at feds f) (at_in feds f blank_federate below)

default_is : IsTerms default_terms
default_is = record {
  period = omega arith;
  offset = omega arith;
  time_delta = omega arith;
  input_delay = omega arith;
  output_delay = omega arith;
  some_iterations = omega arith;
  few_iterations = omega arith;
}

-- settings stand in their bounds, those past the last federate too
pub terms_at : (feds : List FederateRecord) (f : ℕ) → Each IsKept feds → IsTerms (federate_at feds f).settings
terms_at feds f kept = elim (cases_lt f (length feds)) [
  | inl below ↦ (kept_at feds f kept below).terms
  | inr past ↦ subst (λ (x : FederateRecord). IsTerms x.settings) (sym (get_or_past feds f blank_federate past)) default_is
]

filter_kept : (feds : List FederateRecord) (i : Interface FilterTerms) → Each IsKept feds → IsIn i (filters feds) → KeepsBounds i.item.kind i.item.destination_of
filter_kept feds i kept among =
    let at = stands_at (λ (f : FederateRecord). f.filters) feds i among in
    let known = federate_within (λ (f : FederateRecord). f.filters) feds i.ref.fed i.ref.index refl at.within in
    let own = get_or (federate_at feds i.ref.fed).filters i.ref.index blank_filter in
    subst (λ (t : FilterTerms). KeepsBounds t.kind t.destination_of) (sym (at.is blank_filter))
    ((kept_at feds i.ref.fed kept known).filters own (at_in (federate_at feds i.ref.fed).filters i.ref.index blank_filter at.within))

-- ---- chains

filter_short : (meaning : List ℕ → Option EndRef) (kind : FilterKind) (names : List (List ℕ)) → KeepsBounds kind names → delay_of (filter_of meaning kind) ≤ longest_span
filter_short meaning (Delay delay) names keeps = keeps
filter_short meaning (Drop per_million seed) names keeps = omega arith
filter_short meaning (Reroute name) names keeps = omega arith

sum_short : (xs : List Filter) (first : ℕ) → Each (λ x. delay_of x ≤ longest_span) xs → fold (λ a x. a + delay_of x) first xs ≤ first + length xs * longest_span
sum_short [] first each = omega arith
sum_short (x ∷ xs) first each =
    let own : delay_of x ≤ longest_span = each x (inl refl) in
    let rest : fold (λ a x. a + delay_of x) (first + delay_of x) xs ≤ first + delay_of x + length xs * longest_span = sum_short xs (first + delay_of x) (λ y among. each y (inr among)) in
    omega (arith, own, rest)

-- a chain delays by no more than its filters may
chain_short : (feds : List FederateRecord) (side : FilterTerms → List (List ℕ)) (e : EndRef) → Each IsKept feds → length (refs_naming (endpoint_of feds) side (filters feds) e) ≤ most_filters →
    sum_by delay_of (chain_on side feds e) ≤ most_filters * longest_span
chain_short feds side e kept few =
    let all = naming (endpoint_of feds) side (filters feds) e in
    let long : length (chain_on side feds e) ≡ length all = length-map all (λ (i : Interface FilterTerms). filter_of (endpoint_of feds) i.item.kind) in
    let refs : length (refs_naming (endpoint_of feds) side (filters feds) e) ≡ length all = length-map all (λ (i : Interface FilterTerms). i.ref) in
    let sum : sum_by delay_of (chain_on side feds e) ≤ 0 + length (chain_on side feds e) * longest_span = sum_short (chain_on side feds e) 0 each in
    omega (arith, long, refs, few, sum)
  where
    each : Each (λ x. delay_of x ≤ longest_span) (chain_on side feds e)
    each x among =
        let one = in_map (λ (i : Interface FilterTerms). filter_of (endpoint_of feds) i.item.kind) (naming (endpoint_of feds) side (filters feds) e) x among in
        let within = in_filter (λ (i : Interface FilterTerms). name_ref (endpoint_of feds) (side i.item) e) (filters feds) one.0 one.1 in
        subst (λ (y : Filter). delay_of y ≤ longest_span) (sym one.2) (filter_short (endpoint_of feds) one.0.item.kind one.0.item.destination_of (filter_kept feds one.0 kept within.0))

pub source_short : (feds : List FederateRecord) (e : EndRef) → IsAccepted feds → Each IsKept feds → IsEndpoint feds e → sum_by delay_of (source_chain feds e) ≤ most_filters * longest_span
unfolding source_chain
source_short feds e accepted kept within = chain_short feds sources e kept (short feds e accepted within).0

pub destination_short : (feds : List FederateRecord) (e : EndRef) → IsAccepted feds → Each IsKept feds → IsEndpoint feds e → sum_by delay_of (destination_chain feds e) ≤ most_filters * longest_span
unfolding destination_chain
destination_short feds e accepted kept within = chain_short feds destinations e kept (short feds e accepted within).1

-- a filter that stands before an endpoint doesn't reroute
no_reroute : (meaning : List ℕ → Option EndRef) (kind : FilterKind) (names : List (List ℕ)) (e : EndRef) → KeepsBounds kind names → name_ref meaning names e ≡ true → reroute_of (filter_of meaning kind) ≡ None
no_reroute meaning (Delay delay) names e keeps named = refl
no_reroute meaning (Drop per_million seed) names e keeps named = refl
no_reroute meaning (Reroute name) names e keeps named = absurd (true≢false (sym named ∙ ap (λ (l : List (List ℕ)). name_ref meaning l e) keeps))

none_map : {A B : Type 0} (h : A → Option B) (xs : List A) → Each (λ x. h x ≡ None) xs → filter_map h xs ≡ []
none_map h [] each = refl
none_map {A} {B} h (x ∷ xs) each = ap (λ (o : Option B). cons_option o (filter_map h xs)) (each x (inl refl)) ∙ none_map h xs (λ y among. each y (inr among))

pub no_reroutes : (feds : List FederateRecord) (e : EndRef) → Each IsKept feds → reroutes (destination_chain feds e) ≡ []
unfolding destination_chain
no_reroutes feds e kept = none_map reroute_of (chain_on destinations feds e) none
  where
    none : Each (λ x. reroute_of x ≡ None) (chain_on destinations feds e)
    none x among =
        let one = in_map (λ (i : Interface FilterTerms). filter_of (endpoint_of feds) i.item.kind) (naming (endpoint_of feds) destinations (filters feds) e) x among in
        let within = in_filter (λ (i : Interface FilterTerms). name_ref (endpoint_of feds) i.item.destination_of e) (filters feds) one.0 one.1 in
        ap reroute_of one.2 ∙ no_reroute (endpoint_of feds) one.0.item.kind one.0.item.destination_of e (filter_kept feds one.0 kept within.0) within.1

-- ---- messages

-- a chain that keeps a message
record IsKeptBy (chain : List Filter) (dest end : EndRef) (delay : ℕ) : Type 0 where
  pub ends : last_of dest (reroutes chain) ≡ end
  pub late : sum_by delay_of chain ≡ delay

kept_by : (chain : List Filter) (source sequence : ℕ) (dest end : EndRef) (delay : ℕ) → filtered_of chain source sequence dest ≡ Kept end delay → IsKeptBy chain dest end delay
unfolding filtered_of
kept_by chain source sequence dest end delay is = go (position_from (drops source sequence) 0 chain) is
  where
    go : (o : Option ℕ) → option_map_or Dropped o (kept_of chain dest) ≡ Kept end delay → IsKeptBy chain dest end delay
    go None is' = record { ends = cc; late = cc }
    go (Some place) is' = absurd (cc)

-- a message that arrives does so past its source chain's last reroute, later by both chains' delays
pub record Arrives (feds : List FederateRecord) (from to end : EndRef) (delay : ℕ) : Type 0 where
  pub ends : last_of to (reroutes (source_chain feds from)) ≡ end
  pub late : delay ≡ sum_by delay_of (source_chain feds from) + sum_by delay_of (destination_chain feds end)

pub arrives : (feds : List FederateRecord) (from to end : EndRef) (sequence delay : ℕ) → Each IsKept feds → filtered_at feds from sequence to ≡ Kept end delay → Arrives feds from to end delay
arrives feds from to end sequence delay kept is = first (filtered_of (source_chain feds from) from.fed sequence to) refl
  where
    second : (mid : EndRef) (more : ℕ) (o : Filtered) → filtered_of (source_chain feds from) from.fed sequence to ≡ Kept mid more → filtered_of (destination_chain feds mid) from.fed sequence mid ≡ o →
        later_by more o ≡ Kept end delay → Arrives feds from to end delay
    second mid more (Dropped place) one two whole = absurd (cc)
    second mid more (Kept last less) one two whole =
        let out = kept_by (source_chain feds from) from.fed sequence to mid more one in
        let into = kept_by (destination_chain feds mid) from.fed sequence mid last less two in
        let stays : mid ≡ last = ap (λ (rs : List EndRef). last_of mid rs) (sym (no_reroutes feds mid kept)) ∙ into.ends in
        let same : last ≡ end = cc in
        let sum : more + less ≡ delay = cc in
        record {
          ends = out.ends ∙ stays ∙ same;
          late =
              sym sum ∙ ap (λ (n : ℕ). n + less) (sym out.late) ∙ ap (λ (n : ℕ). sum_by delay_of (source_chain feds from) + n) (sym into.late)
              ∙ ap (λ (r : EndRef). sum_by delay_of (source_chain feds from) + sum_by delay_of (destination_chain feds r)) (stays ∙ same);
        }

    first : (o : Filtered) → filtered_of (source_chain feds from) from.fed sequence to ≡ o → Arrives feds from to end delay
    first (Dropped place) one = let cut = rw one at is in absurd (cc)
    first (Kept mid more) one = let cut = rw one at is in second mid more (filtered_of (destination_chain feds mid) from.fed sequence mid) one refl cut

last_some : (r : EndRef) (rs : List EndRef) → last_or (Some r) rs ≡ Some (last_of r rs)
last_some r [] = refl
last_some r (q ∷ qs) = last_some q qs

-- that is an endpoint
pub end_known : (feds : List FederateRecord) (from to end : EndRef) → IsAccepted feds → IsEndpoint feds to → last_of to (reroutes (source_chain feds from)) ≡ end → IsEndpoint feds end
end_known feds from to end accepted known is = go (reroutes (source_chain feds from)) refl is
  where
    go : (rs : List EndRef) → reroutes (source_chain feds from) ≡ rs → last_of to rs ≡ end → IsEndpoint feds end
    go [] are is' = subst (IsEndpoint feds) is' known
    go (r ∷ rs) are is' = last_known feds from end accepted (ap (last_or None) are ∙ last_some r rs ∙ ap (λ (x : EndRef). Some x) is')

-- which the sender reaches
pub end_reached : (feds : List FederateRecord) (from to end : EndRef) → may_send feds from to ≡ true → last_of to (reroutes (source_chain feds from)) ≡ end →
    reaches feds (endpoint_at feds from) (endpoint_at feds end) ≡ true
end_reached feds from to end may is = go (reroutes (source_chain feds from)) refl is
  where
    go : (rs : List EndRef) → reroutes (source_chain feds from) ≡ rs → last_of to rs ≡ end → reaches feds (endpoint_at feds from) (endpoint_at feds end) ≡ true
    go [] are is' =
        ap (λ (l : List EndRef). reaches_by (endpoint_of feds) (last_or None l) (endpoint_at feds from) (endpoint_at feds end)) are
        ∙ subst (λ (r : EndRef). may_send feds from r ≡ true) is' may
    go (r ∷ rs) are is' =
        ap (λ (l : List EndRef). reaches_by (endpoint_of feds) (last_or None l) (endpoint_at feds from) (endpoint_at feds end)) are
        ∙ ap (λ (o : Option EndRef). reaches_by (endpoint_of feds) o (endpoint_at feds from) (endpoint_at feds end)) (last_some r rs)
        ∙ ap (λ (x : EndRef). same_end end x) is' ∙ same_itself end

-- ---- dependencies

-- who is reached depends on the sender
pub message_depends : (feds : List FederateRecord) (from end : EndRef) → IsEndpoint feds from → IsEndpoint feds end → reaches feds (endpoint_at feds from) (endpoint_at feds end) ≡ true →
    depends feds from.fed end.fed ≡ true
unfolding depends
message_depends feds from end known known' holds =
    or_right (by_value feds from.fed end.fed) (by_message feds from.fed end.fed)
    (reached feds from.fed end.fed (endpoint_at feds from) (endpoint_at feds end) (endpoint_listed feds from known) (endpoint_listed feds end known') (eq-eqb from.fed from.fed refl) (eq-eqb end.fed end.fed refl) holds)

-- an input that targets a publication
record IsTargeting (feds : List FederateRecord) (publication input : EndRef) : Type 0 where
  pub one : Interface InputRecord
  pub among : IsIn one (inputs feds)
  pub is : input ≡ one.ref
  pub name : List ℕ
  pub named : IsIn name one.item.targets
  pub means : publication_of feds name ≡ Some publication

targeting : (feds : List FederateRecord) (publication input : EndRef) → IsIn input (targets_of feds publication) → IsTargeting feds publication input
targeting feds publication input among =
    let m = in_map (λ (i : Interface InputRecord). i.ref) (naming (publication_of feds) (λ (i : InputRecord). i.targets) (inputs feds) publication) input among in
    let within = in_filter (λ (i : Interface InputRecord). name_ref (publication_of feds) i.item.targets publication) (inputs feds) m.0 m.1 in
    let name = from_ref (publication_of feds) m.0.item.targets publication within.1 in
    record { one = m.0; among = within.0; is = m.2; name = name.0; named = name.1; means = name.2 }

-- depends on it, and both are interfaces of the plan
pub value_depends : (feds : List FederateRecord) (publication input : EndRef) → IsIn input (targets_of feds publication) → depends feds publication.fed input.fed ≡ true
unfolding depends
value_depends feds publication input among =
    let t = targeting feds publication input among in
    or_left (by_value feds publication.fed input.fed) (by_message feds publication.fed input.fed)
    (any_to (λ (i : Interface InputRecord). nat_eq input.fed i.ref.fed && name_fed (publication_of feds) i.item.targets publication.fed) (inputs feds) t.one t.among
    (and_from (nat_eq input.fed t.one.ref.fed) _
    (ap (λ (r : EndRef). nat_eq input.fed r.fed) (sym t.is) ∙ eq-eqb input.fed input.fed refl)
    (to_fed (publication_of feds) t.one.item.targets t.name publication publication.fed t.named t.means (eq-eqb publication.fed publication.fed refl))))

pub target_known : (feds : List FederateRecord) (publication input : EndRef) → IsIn input (targets_of feds publication) → IsInput feds input × IsPublication feds publication
target_known feds publication input among =
    let t = targeting feds publication input among in (
      subst (IsInput feds) (sym t.is) (stands_at (λ (f : FederateRecord). f.inputs) feds t.one t.among).within,
      publications_known feds t.name publication t.means,
    )

-- on whom one depends is a federate
pub depended_within : (feds : List FederateRecord) (a f : ℕ) → depends feds a f ≡ true → a < length feds
unfolding depends
depended_within feds a f holds = elim (or_cases (by_value feds a f) (by_message feds a f) holds) [
  | inl value ↦
      let one = any_from (λ (i : Interface InputRecord). nat_eq f i.ref.fed && name_fed (publication_of feds) i.item.targets a) (inputs feds) value in
      let named = from_name (publication_of feds) one.0.item.targets a (and_parts (nat_eq f one.0.ref.fed) (name_fed (publication_of feds) one.0.item.targets a) one.2).1 in
      let known = publications_known feds named.0 named.1 named.3 in
      subst (λ (k : ℕ). k < length feds) (sym (eqb-true a named.1.fed named.4)) (federate_within (λ (x : FederateRecord). x.publications) feds named.1.fed named.1.index refl known)
  | inr message ↦
      let one = any_from (λ (e : Interface EndRecord). nat_eq a e.ref.fed && list_any (λ x. nat_eq f x.ref.fed && reaches feds e x) (endpoints feds)) (endpoints feds) message in
      let own = and_parts (nat_eq a one.0.ref.fed) _ one.2 in
      let known = (stands_at (λ (x : FederateRecord). x.endpoints) feds one.0 one.1).within in
      subst (λ (k : ℕ). k < length feds) (sym (eqb-true a one.0.ref.fed own.0)) (federate_within (λ (x : FederateRecord). x.endpoints) feds one.0.ref.fed one.0.ref.index refl known)
]

-- so is who begins a path
path_within : (feds : List FederateRecord) (a f : ℕ) → Leads (depends feds) a f → a < length feds
path_within feds _ _ (by_link a f linked) = depended_within feds a f linked
path_within feds _ _ (by_way_of a b f first second) = path_within feds a b first

-- and each ancestor
pub ancestor_within : (p : Federation) → IsFederation p → (a f : ℕ) → IsIn a (row_of p.ancestors f) → a < length p.federates
ancestor_within p is a f among = path_within p.federates a f ((is.closed.exact a f).0 among).1
