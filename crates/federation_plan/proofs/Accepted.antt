-- What is known where no reason speaks against a plan.
use Rattle.std.proofs.Common.{◌≡◌, inl, inr, ℕ, ◌≤◌, Bool, true, false, List, [], ◌∷◌, length, get_or, refl, sym, ◌∙◌, ap, subst, Option, Some, None, map}
use Rattle.std.specs.Prelude.{if◌then◌else◌, ◌||◌, nat_lt}
use Rattle.std.specs.Option.{option_or}
use Rattle.std.proofs.lemmas.Bool.{ltb-false}
use Rattle.std.proofs.lemmas.List.{length-map}
use Rattle.hel_lists.specs.Members.{IsIn, Each}
use Rattle.hel_lists.proofs.Members.{in_map, in_filter}
use Rattle.hel_values.specs.declared.EndRef.{EndRef}
use Rattle.interface_names.specs.declared.records.FederateRecord.{FederateRecord}
use Rattle.interface_names.specs.Filter.{FilterTerms}
use Rattle.message_filters.specs.Limits.{most_filters}
use Rattle.federation_plan.specs.declared.refusal.PlanRefusal.{PlanRefusal}
use Rattle.federation_plan.specs.Interfaces.{Interface, one_in, naming, refs_naming, endpoint_of, publication_of, inputs, filters, endpoints, federate_at, blank_endpoint, IsFilter, IsEndpoint}
use Rattle.federation_plan.specs.Chains.{sources, destinations}
use Rattle.federation_plan.specs.Refusal.{first_some, missing_at, mismatch_at, target_at, too_long_at, named_refusal}
use Rattle.federation_plan.proofs.Places.{stands_at, among_all}

-- where neither gives an answer, both give none
pub both_none : {A : Type 0} (o p : Option A) → option_or o p ≡ None → (o ≡ None) × (p ≡ None)
both_none None p none = (refl, none)
both_none (Some x) p none = absurd (cc)

-- where the list gives no answer, no member gives one
pub none_asks : {A B : Type 0} (ask : A → Option B) (xs : List A) (x : A) → first_some ask xs ≡ None → IsIn x xs → ask x ≡ None
none_asks ask [] x none among = absurd among
none_asks {A} {B} ask (y ∷ ys) x none among =
    let both = both_none (ask y) (first_some ask ys) none in
    elim among [ inl here ↦ ap ask here ∙ both.0 | inr later ↦ none_asks ask ys x both.1 later ]

-- the parts
pub record IsAccepted (feds : List FederateRecord) : Type 0 where
  pub required : first_some (missing_at (publication_of feds)) (inputs feds) ≡ None
  pub kinds : first_some (mismatch_at (publication_of feds) feds) (inputs feds) ≡ None
  pub targets : first_some (target_at (endpoint_of feds)) (filters feds) ≡ None
  pub chains : first_some (too_long_at (endpoint_of feds) (filters feds)) (endpoints feds) ≡ None

pub accepted : (feds : List FederateRecord) → named_refusal feds ≡ None → IsAccepted feds
accepted feds none =
    let first = both_none _ _ none in
    let second = both_none _ _ first.1 in
    let third = both_none _ _ second.1 in
    record { required = first.0; kinds = second.0; targets = third.0; chains = third.1 }

-- who names an endpoint is a filter
pub filters_named : (feds : List FederateRecord) (meaning : List ℕ → Option EndRef) (side : FilterTerms → List (List ℕ)) (e : EndRef) → Each (IsFilter feds) (refs_naming meaning side (filters feds) e)
filters_named feds meaning side e q among =
    let is = in_map (λ (i : Interface FilterTerms). i.ref) (naming meaning side (filters feds) e) q among in
    let within = in_filter (λ (i : Interface FilterTerms). _) (filters feds) is.0 is.1 in
    subst (IsFilter feds) (sym is.2) (stands_at (λ (f : FederateRecord). f.filters) feds is.0 within.0).within

-- no side of an endpoint is too long
pub short : (feds : List FederateRecord) (e : EndRef) → IsAccepted feds → IsEndpoint feds e →
    (length (refs_naming (endpoint_of feds) sources (filters feds) e) ≤ most_filters) × (length (refs_naming (endpoint_of feds) destinations (filters feds) e) ≤ most_filters)
short feds e accepted within =
    let i = one_in (federate_at feds e.fed).name e.fed e.index (get_or (federate_at feds e.fed).endpoints e.index blank_endpoint) in
    let none = none_asks (too_long_at (endpoint_of feds) (filters feds)) (endpoints feds) i accepted.chains
    (among_all (λ (f : FederateRecord). f.endpoints) feds e blank_endpoint refl within) in
    let tests = not_either _ _ _ none in (
      few (naming (endpoint_of feds) sources (filters feds) e) tests.0,
      few (naming (endpoint_of feds) destinations (filters feds) e) tests.1,
    )
  where
    not_either : (a b : Bool) (r : PlanRefusal) → (if a || b then Some r else None) ≡ None → (a ≡ false) × (b ≡ false)
    not_either true b r none = absurd (cc)
    not_either false true r none = absurd (cc)
    not_either false false r none = (refl, refl)

    few : (is : List (Interface FilterTerms)) → nat_lt most_filters (length is) ≡ false → length (map (λ (i : Interface FilterTerms). i.ref) is) ≤ most_filters
    few is none = subst (λ (n : ℕ). n ≤ most_filters) (sym (length-map is (λ (i : Interface FilterTerms). i.ref))) (ltb-false _ _ none)
