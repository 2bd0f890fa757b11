-- Where the filters let a message arrive.
use Rattle.std.proofs.Common.{◌≡◌, inl, inr, ℕ, ◌*◌, ◌≤◌, List, [], ◌∷◌, arith, refl, sym, ◌∙◌, ap, subst, Option, Some, None}
use Rattle.std.specs.Prelude.{IfSome}
use Rattle.std.specs.List.{position_from}
use Rattle.std.specs.Option.{option_map_or}
use Rattle.hel_lists.specs.Members.{Each}
use Rattle.hel_lists.proofs.Members.{in_map, in_filter}
use Rattle.hel_values.specs.declared.EndRef.{EndRef}
use Rattle.interface_names.specs.declared.records.FederateRecord.{FederateRecord}
use Rattle.interface_names.specs.Filter.{FilterTerms}
use Rattle.message_filters.specs.declared.filter.Filter.{Filter}
use Rattle.message_filters.specs.declared.chain.Filtered.{Filtered}
use Rattle.message_filters.specs.declared.chain.Filtered.TheVariants.{Kept, Dropped}
use Rattle.message_filters.specs.Filter.{reroute_of, drops}
use Rattle.message_filters.specs.Chain.{filtered_of, last_of, kept_of, KeepsBounds}
use Rattle.helics_time.specs.Time.{longest_span}
use Rattle.message_filters.specs.Limits.{most_filters}
use Rattle.federation_plan.specs.Interfaces.{Interface, naming, endpoint_of, filters, IsEndpoint}
use Rattle.federation_plan.specs.Chains.{chain_on, filter_of, reroutes, source_chain, destination_chain, later_by, IsFiltered}
use Rattle.federation_plan.specs.Refusal.{target_at, refusal_of}
use Rattle.federation_plan.proofs.Accepted.{IsAccepted, accepted, none_asks, both_none}
use Rattle.federation_plan.proofs.Depending.{from_member, reroute_known}
use Rattle.federation_plan.proofs.Places.{endpoints_known}

-- a chain's reroutes lead to endpoints
reroutes_known : (feds : List FederateRecord) (side : FilterTerms → List (List ℕ)) (e : EndRef) → IsAccepted feds → Each (IsEndpoint feds) (reroutes (chain_on side feds e))
reroutes_known feds side e is r among =
    let filter = from_member reroute_of (chain_on side feds e) r among in
    let one = in_map (λ (i : Interface FilterTerms). filter_of (endpoint_of feds) i.item.kind) (naming (endpoint_of feds) side (filters feds) e) filter.0 filter.1 in
    let within = in_filter (λ (i : Interface FilterTerms). _) (filters feds) one.0 one.1 in
    let none = none_asks (target_at (endpoint_of feds)) (filters feds) one.0 is.targets within.0 in
    reroute_known feds one.0.item.kind r (both_none _ _ (both_none _ _ none).1).1 (sym (ap reroute_of one.2) ∙ filter.2)

source_known : (feds : List FederateRecord) (e : EndRef) → IsAccepted feds → Each (IsEndpoint feds) (reroutes (source_chain feds e))
unfolding source_chain
source_known feds e is = reroutes_known feds _ e is

destination_known : (feds : List FederateRecord) (e : EndRef) → IsAccepted feds → Each (IsEndpoint feds) (reroutes (destination_chain feds e))
unfolding destination_chain
destination_known feds e is = reroutes_known feds _ e is

last_is : {A : Type 0} (P : A → Type 0) (x : A) (xs : List A) → P x → Each P xs → P (last_of x xs)
last_is P x [] first rest = first
last_is P x (y ∷ ys) first rest = last_is P y ys (rest y (inl refl)) (λ z among. rest z (inr among))

-- a kept message arrives at an endpoint
pub record Arrives (P : EndRef → Type 0) (filtered : Filtered) : Type 0 where
  pub end : (dest : EndRef) (delay : ℕ) → filtered ≡ Kept dest delay → P dest

arrives : (P : EndRef → Type 0) (chain : List Filter) (source sequence : ℕ) (dest : EndRef) → P dest → Each P (reroutes chain) → Arrives P (filtered_of chain source sequence dest)
unfolding filtered_of
arrives P chain source sequence dest first each = go (position_from (drops source sequence) 0 chain)
  where
    go : (o : Option ℕ) → Arrives P (option_map_or Dropped o (kept_of chain dest))
    go None = record { end = λ d more is. subst P (let same : last_of dest (reroutes chain) ≡ d = cc in same) (last_is P dest (reroutes chain) first each) }
    go (Some place) = record { end = λ d more is. absurd (cc) }

pub source_arrives : (feds : List FederateRecord) (e : EndRef) (source sequence : ℕ) (dest : EndRef) → IsAccepted feds → IsEndpoint feds dest →
    Arrives (IsEndpoint feds) (filtered_of (source_chain feds e) source sequence dest)
source_arrives feds e source sequence dest is known = arrives (IsEndpoint feds) (source_chain feds e) source sequence dest known (source_known feds e is)

pub destination_arrives : (feds : List FederateRecord) (e : EndRef) (source sequence : ℕ) (dest : EndRef) → IsAccepted feds → IsEndpoint feds dest →
    Arrives (IsEndpoint feds) (filtered_of (destination_chain feds e) source sequence dest)
destination_arrives feds e source sequence dest is known = arrives (IsEndpoint feds) (destination_chain feds e) source sequence dest known (destination_known feds e is)

-- nothing speaks against a plan's federates
pub plan_accepted : (feds : List FederateRecord) → refusal_of feds ≡ None → IsAccepted feds
unfolding refusal_of
plan_accepted feds none = accepted feds (both_none _ _ none).1

-- two chains together
pub later_is : (feds : List FederateRecord) (delay : ℕ) (second : Filtered) → delay ≤ most_filters * longest_span → KeepsBounds second →
    Arrives (IsEndpoint feds) second → IsFiltered feds (later_by delay second)
later_is feds delay (Kept end more) first second arrive = (arrive.end end more refl, omega (arith, first, second))
later_is feds delay (Dropped place) first second arrive = second

-- what a name means is an endpoint
pub known_end : (feds : List FederateRecord) (name : List ℕ) (o : Option EndRef) → o ≡ endpoint_of feds name → IfSome o (IsEndpoint feds)
known_end feds name None is = tt
known_end feds name (Some e) is = endpoints_known feds name e (sym is)
