-- The tables of a plan, from those that it is made from.
use Rattle.std.proofs.Common.{◌≡◌, ◌⊎◌, inl, inr, ℕ, ◌<◌, ◌≤◌, List, [], ◌∷◌, length, arith, refl, sym, ◌∙◌, ap, subst, Option, Some, None, map}
use Rattle.std.specs.Prelude.{if◌then◌else◌, ◌||◌, nat_lt, Result}
use Rattle.std.specs.Option.{option_or}
use Rattle.std.proofs.lemmas.Bool.{cases_lt}
use Rattle.std.proofs.lemmas.List.{get_or_past, length-map}
use Rattle.hel_lists.specs.Members.{IsIn}
use Rattle.hel_lists.proofs.Members.{in_filter}
use Rattle.hel_values.specs.declared.EndRef.{EndRef}
use Rattle.interface_names.specs.declared.records.EndRecord.{EndRecord}
use Rattle.interface_names.specs.declared.records.FederateRecord.{FederateRecord}
use Rattle.interface_names.specs.Filter.{FilterTerms}
use Rattle.message_filters.specs.Limits.{most_filters}
use Rattle.message_filters.specs.declared.filter.Filter.{Filter}
use Rattle.federation_plan.specs.declared.refusal.PlanRefusal.{PlanRefusal}
use Rattle.federation_plan.specs.declared.refusal.PlanRefusal.TheVariants.{ChainTooLong}
use Rattle.federation_plan.specs.Interfaces.{Interface, naming, refs_naming, endpoint_of, publication_of, inputs, filters, endpoints, federate_at, filter_at, blank_filter, IsEndpoint, ArePublications, AreEndpoints}
use Rattle.federation_plan.specs.Chains.{sources, destinations, filter_of, chain_on, source_chain, destination_chain}
use Rattle.federation_plan.specs.Links.{AreBelow}
use Rattle.federation_plan.specs.Tables.{row_at, entry, too_long_in, chain_by}
use Rattle.federation_plan.specs.Draft.{IsSide}
use Rattle.federation_plan.specs.Refusal.{first_some, missing_at, mismatch_at, target_at, too_long_at, named_refusal, Says}
use Rattle.federation_plan.proofs.Accepted.{filters_named}
use Rattle.federation_plan.proofs.Named.{federate_within}
use Rattle.federation_plan.proofs.Places.{stands_at, endpoints_known, publications_known}

-- two that agree at each name are the same
pub same_meaning : {A B : Type 0} (m n : A → B) → ((x : A) → m x ≡ n x) → m ≡ n
same_meaning m n agree = λ i x. agree x i

-- a table of names has interfaces of the federates alone
pub ends_known : (feds : List FederateRecord) (m : List ℕ → Option EndRef) → ((name : List ℕ) → m name ≡ endpoint_of feds name) → AreEndpoints feds m
ends_known feds m agree name e means = endpoints_known feds name e (sym (agree name) ∙ means)

pub pubs_known : (feds : List FederateRecord) (m : List ℕ → Option EndRef) → ((name : List ℕ) → m name ≡ publication_of feds name) → ArePublications feds m
pubs_known feds m agree name p means = publications_known feds name p (sym (agree name) ∙ means)

pub ends_below : (feds : List FederateRecord) (m : List ℕ → Option EndRef) (count : ℕ) → AreEndpoints feds m → count ≡ length feds → AreBelow count m
ends_below feds m count known many name r means =
    subst (λ (n : ℕ). r.fed < n) (sym many) (federate_within (λ (f : FederateRecord). f.endpoints) feds r.fed r.index refl (known name r means))

pub pubs_below : (feds : List FederateRecord) (m : List ℕ → Option EndRef) (count : ℕ) → ArePublications feds m → count ≡ length feds → AreBelow count m
pubs_below feds m count known many name r means =
    subst (λ (n : ℕ). r.fed < n) (sym many) (federate_within (λ (f : FederateRecord). f.publications) feds r.fed r.index refl (known name r means))

-- the filters on a side are few enough
pub side_is : (feds : List FederateRecord) (table : List (List (List EndRef))) (side : FilterTerms → List (List ℕ)) →
    ((f : ℕ) → length (row_at table f) ≡ length (federate_at feds f).endpoints) → ((e : EndRef) → entry table e ≡ refs_naming (endpoint_of feds) side (filters feds) e) →
    ((e : EndRef) → IsEndpoint feds e → length (refs_naming (endpoint_of feds) side (filters feds) e) ≤ most_filters) → IsSide feds table
side_is feds table side places entries short f = record {
  many = places f;
  short = λ n. elim (cases_lt n (length (row_at table f))) [
    | inl below ↦
        subst (λ (l : List EndRef). length l ≤ most_filters) (sym (entries (record { fed = f; index = n })))
        (short (record { fed = f; index = n }) (subst (λ (m : ℕ). n < m) (places f) below))
    | inr past ↦ subst (λ (l : List EndRef). length l ≤ most_filters) (sym (get_or_past (row_at table f) n [] past)) (omega arith)
  ];
  known = λ n q among. filters_named feds (endpoint_of feds) side (record { fed = f; index = n }) q (subst (IsIn q) (entries (record { fed = f; index = n })) among);
}

-- the chain of the filters on a side
chain_of : (feds : List FederateRecord) (is : List (Interface FilterTerms)) → ((i : Interface FilterTerms) → IsIn i is → filter_at feds i.ref ≡ i.item) →
    chain_by (endpoint_of feds) feds (map (λ (i : Interface FilterTerms). i.ref) is) ≡ map (λ (i : Interface FilterTerms). filter_of (endpoint_of feds) i.item.kind) is
chain_of feds [] each = refl
chain_of feds (i ∷ is) each =
    ap (λ (t : FilterTerms). filter_of (endpoint_of feds) t.kind ∷ chain_by (endpoint_of feds) feds (map (λ (j : Interface FilterTerms). j.ref) is)) (each i (inl refl))
    ∙ ap (λ (c : List Filter). filter_of (endpoint_of feds) i.item.kind ∷ c) (chain_of feds is (λ j among. each j (inr among)))

chain_is : (feds : List FederateRecord) (m : List ℕ → Option EndRef) (refs : List EndRef) (side : FilterTerms → List (List ℕ)) (e : EndRef) →
    ((name : List ℕ) → m name ≡ endpoint_of feds name) → refs ≡ refs_naming (endpoint_of feds) side (filters feds) e → chain_by m feds refs ≡ chain_on side feds e
chain_is feds m refs side e agree are =
    ap (λ (n : List ℕ → Option EndRef). chain_by n feds refs) (same_meaning m (endpoint_of feds) agree)
    ∙ ap (λ (l : List EndRef). chain_by (endpoint_of feds) feds l) are
    ∙ chain_of feds (naming (endpoint_of feds) side (filters feds) e) (λ i among.
    sym ((stands_at (λ (f : FederateRecord). f.filters) feds i (in_filter (λ (j : Interface FilterTerms). _) (filters feds) i among).0).is blank_filter))

pub source_is : (feds : List FederateRecord) (m : List ℕ → Option EndRef) (refs : List EndRef) (e : EndRef) →
    ((name : List ℕ) → m name ≡ endpoint_of feds name) → refs ≡ refs_naming (endpoint_of feds) sources (filters feds) e → chain_by m feds refs ≡ source_chain feds e
unfolding source_chain
source_is feds m refs e agree are = chain_is feds m refs sources e agree are

pub destination_is : (feds : List FederateRecord) (m : List ℕ → Option EndRef) (refs : List EndRef) (e : EndRef) →
    ((name : List ℕ) → m name ≡ endpoint_of feds name) → refs ≡ refs_naming (endpoint_of feds) destinations (filters feds) e → chain_by m feds refs ≡ destination_chain feds e
unfolding destination_chain
destination_is feds m refs e agree are = chain_is feds m refs destinations e agree are

-- the first reason, part by part
here : {B M : Type 0} (o rest : Option B) (r : B) → M ⊎ (o ≡ Some r) → M ⊎ (option_or o rest ≡ Some r)
here o rest r (inl wanting) = inl wanting
here o rest r (inr is) = inr (ap (λ (p : Option _). option_or p rest) is)

later : {B M : Type 0} (o rest : Option B) (r : B) → o ≡ None → M ⊎ (rest ≡ Some r) → M ⊎ (option_or o rest ≡ Some r)
later o rest r none (inl wanting) = inl wanting
later o rest r none (inr is) = inr (ap (λ (p : Option _). option_or p rest) none ∙ is)

skip : {o rest : Option PlanRefusal} → o ≡ None → option_or o rest ≡ rest
skip {rest = rest} nothing = ap (λ (q : Option PlanRefusal). option_or q rest) nothing

module _ (feds : List FederateRecord) (pubs ends : List ℕ → Option EndRef) (p : (name : List ℕ) → pubs name ≡ publication_of feds name) (e : (name : List ℕ) → ends name ≡ endpoint_of feds name) where
  required_is : first_some (missing_at pubs) (inputs feds) ≡ first_some (missing_at (publication_of feds)) (inputs feds)
  required_is = ap (λ (m : List ℕ → Option EndRef). first_some (missing_at m) (inputs feds)) (same_meaning pubs (publication_of feds) p)

  kinds_are : first_some (mismatch_at pubs feds) (inputs feds) ≡ first_some (mismatch_at (publication_of feds) feds) (inputs feds)
  kinds_are = ap (λ (m : List ℕ → Option EndRef). first_some (mismatch_at m feds) (inputs feds)) (same_meaning pubs (publication_of feds) p)

  targets_are : first_some (target_at ends) (filters feds) ≡ first_some (target_at (endpoint_of feds)) (filters feds)
  targets_are = ap (λ (m : List ℕ → Option EndRef). first_some (target_at m) (filters feds)) (same_meaning ends (endpoint_of feds) e)

  pub first_reason : {M : Type 0} (r : PlanRefusal) → M ⊎ (first_some (missing_at pubs) (inputs feds) ≡ Some r) → M ⊎ (named_refusal feds ≡ Some r)
  first_reason {M} r is = here _ _ r (subst (λ (o : Option PlanRefusal). M ⊎ (o ≡ Some r)) required_is is)

  pub second_reason : {M : Type 0} (r : PlanRefusal) → first_some (missing_at pubs) (inputs feds) ≡ None → M ⊎ (first_some (mismatch_at pubs feds) (inputs feds) ≡ Some r) →
      M ⊎ (named_refusal feds ≡ Some r)
  second_reason {M} r none is = later _ _ r (sym required_is ∙ none) (here _ _ r (subst (λ (o : Option PlanRefusal). M ⊎ (o ≡ Some r)) kinds_are is))

  pub third_reason : {M : Type 0} (r : PlanRefusal) → first_some (missing_at pubs) (inputs feds) ≡ None → first_some (mismatch_at pubs feds) (inputs feds) ≡ None →
      M ⊎ (first_some (target_at ends) (filters feds) ≡ Some r) → M ⊎ (named_refusal feds ≡ Some r)
  third_reason {M} r none none' is =
      later _ _ r (sym required_is ∙ none) (later _ _ r (sym kinds_are ∙ none') (here _ _ r (subst (λ (o : Option PlanRefusal). M ⊎ (o ≡ Some r)) targets_are is)))

  long_is : (s d : List (List (List EndRef))) → ((i : EndRef) → entry s i ≡ refs_naming (endpoint_of feds) sources (filters feds) i) →
      ((i : EndRef) → entry d i ≡ refs_naming (endpoint_of feds) destinations (filters feds) i) →
      first_some (too_long_in s d) (endpoints feds) ≡ first_some (too_long_at (endpoint_of feds) (filters feds)) (endpoints feds)
  long_is s d on_source on_destination =
      let each : (i : Interface EndRecord) → too_long_in s d i ≡ too_long_at (endpoint_of feds) (filters feds) i = λ i.
      ap (λ (n : ℕ). if nat_lt most_filters n || nat_lt most_filters (length (entry d i.ref)) then Some (ChainTooLong i.ref) else None)
      (ap length (on_source i.ref) ∙ length-map (naming (endpoint_of feds) sources (filters feds) i.ref) (λ (j : Interface FilterTerms). j.ref))
      ∙ ap (λ (n : ℕ). if nat_lt most_filters (length (naming (endpoint_of feds) sources (filters feds) i.ref)) || nat_lt most_filters n then Some (ChainTooLong i.ref) else None)
      (ap length (on_destination i.ref) ∙ length-map (naming (endpoint_of feds) destinations (filters feds) i.ref) (λ (j : Interface FilterTerms). j.ref))
      in ap (λ (ask : Interface EndRecord → Option PlanRefusal). first_some ask (endpoints feds)) (same_meaning (too_long_in s d) (too_long_at (endpoint_of feds) (filters feds)) each)

  pub last_reason : (s d : List (List (List EndRef))) (result : Result (Unit {0}) PlanRefusal) →
      ((i : EndRef) → entry s i ≡ refs_naming (endpoint_of feds) sources (filters feds) i) → ((i : EndRef) → entry d i ≡ refs_naming (endpoint_of feds) destinations (filters feds) i) →
      first_some (missing_at pubs) (inputs feds) ≡ None → first_some (mismatch_at pubs feds) (inputs feds) ≡ None → first_some (target_at ends) (filters feds) ≡ None →
      Says (first_some (too_long_in s d) (endpoints feds)) result → Says (named_refusal feds) result
  last_reason s d result on_source on_destination none none' none'' says =
      subst (λ (o : Option PlanRefusal). Says o result)
      (long_is s d on_source on_destination ∙ sym (skip (sym required_is ∙ none) ∙ skip (sym kinds_are ∙ none') ∙ skip (sym targets_are ∙ none''))) says
