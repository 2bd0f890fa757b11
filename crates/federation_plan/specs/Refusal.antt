-- Why a plan isn't made.
use Rattle.std.specs.Prelude.{ℕ, ◌≡◌, ◌⊎◌, nat_lt, ◌||◌, is_none, List, [], ◌∷◌, length, find, Option, None, Some, Result, Ok, Err, if◌then◌else◌}
use Rattle.std.specs.Option.{option_map, option_or, option_and_then}
use Rattle.hel_values.specs.declared.EndRef.{EndRef}
use Rattle.hel_values.specs.declared.ValueKind.{ValueKind}
use Rattle.hel_values.specs.Values.{same_kind}
use Rattle.interface_names.specs.declared.records.InputRecord.{InputRecord}
use Rattle.interface_names.specs.declared.records.EndRecord.{EndRecord}
use Rattle.interface_names.specs.declared.records.FilterKind.{FilterKind}
use Rattle.interface_names.specs.declared.records.FilterKind.TheVariants.{Delay, Drop, Reroute}
use Rattle.interface_names.specs.declared.records.FederateRecord.{FederateRecord}
use Rattle.interface_names.specs.Filter.{FilterTerms}
use Rattle.message_filters.specs.Limits.{most_filters}
use Rattle.federation_plan.specs.declared.refusal.PlanRefusal.{PlanRefusal}
use Rattle.federation_plan.specs.declared.refusal.PlanRefusal.TheVariants.{NoFederates, MissingRequired, KindMismatch, FilterTarget, ChainTooLong, OutOfMemory}
use Rattle.federation_plan.specs.Interfaces.{Interface, naming, publication_at, publication_of, endpoint_of, inputs, endpoints, filters}
use Rattle.federation_plan.specs.Chains.{sources, destinations}

-- the first answer that one of the list gives
abbrev pub first_some : {A B : Type 0} → (A → Option B) → List A → Option B
first_some ask [] = None
first_some ask (x ∷ xs) = option_or (ask x) (first_some ask xs)

-- the first of the names that means nothing
abbrev pub unknown_of : (List ℕ → Option EndRef) → List (List ℕ) → Option (List ℕ)
unknown_of meaning names = find (λ name. is_none (meaning name)) names

-- a required input's target that is no publication
abbrev pub missing_at : (List ℕ → Option EndRef) → Interface InputRecord → Option PlanRefusal
missing_at meaning i = if i.item.required then option_map (λ name. MissingRequired i.ref.fed name) (unknown_of meaning i.item.targets) else None

-- the publication that a name means, where it is of another kind
abbrev pub other_kind : (List ℕ → Option EndRef) → List FederateRecord → ValueKind → List ℕ → Option EndRef
other_kind meaning feds kind name = option_and_then (λ p. if same_kind (publication_at feds p).kind kind then None else Some p) (meaning name)

-- an input that takes one kind of values, and a target of another
abbrev pub mismatch_at : (List ℕ → Option EndRef) → List FederateRecord → Interface InputRecord → Option PlanRefusal
mismatch_at meaning feds i =
    option_and_then (λ kind. option_map (λ p. KindMismatch i.ref.fed i.ref.index p) (first_some (other_kind meaning feds kind) i.item.targets)) i.item.kind

-- a filter's source, destination or reroute that is no endpoint
abbrev pub reroute_refusal : (List ℕ → Option EndRef) → FilterKind → Option PlanRefusal
reroute_refusal meaning (Delay delay) = None
reroute_refusal meaning (Drop per_million seed) = None
reroute_refusal meaning (Reroute name) = if is_none (meaning name) then Some (FilterTarget name) else None

abbrev pub target_at : (List ℕ → Option EndRef) → Interface FilterTerms → Option PlanRefusal
target_at meaning i =
    option_or (option_map (λ name. FilterTarget name) (unknown_of meaning i.item.source_of))
    (option_or (option_map (λ name. FilterTarget name) (unknown_of meaning i.item.destination_of)) (reroute_refusal meaning i.item.kind))

-- an endpoint with too many filters on one side
abbrev pub too_long_at : (List ℕ → Option EndRef) → List (Interface FilterTerms) → Interface EndRecord → Option PlanRefusal
too_long_at meaning all e =
    if nat_lt most_filters (length (naming meaning sources all e.ref)) || nat_lt most_filters (length (naming meaning destinations all e.ref))
    then Some (ChainTooLong e.ref) else None

abbrev pub none_at_all : List FederateRecord → Option PlanRefusal
none_at_all [] = Some NoFederates
none_at_all (f ∷ feds) = None

-- the first reason against a plan of these federates, and of one kind the first by federate and interface
abbrev pub named_refusal : List FederateRecord → Option PlanRefusal
named_refusal feds =
    option_or (first_some (missing_at (publication_of feds)) (inputs feds))
    (option_or (first_some (mismatch_at (publication_of feds) feds) (inputs feds))
    (option_or (first_some (target_at (endpoint_of feds)) (filters feds))
    (first_some (too_long_at (endpoint_of feds) (filters feds)) (endpoints feds))))

unfoldable pub refusal_of : List FederateRecord → Option PlanRefusal
refusal_of feds = option_or (none_at_all feds) (named_refusal feds)

-- what a look for a reason may answer: that there is none, the reason, or that memory is wanting
abbrev pub Says : Option PlanRefusal → Result (Unit {0}) PlanRefusal → Type 0
Says refusal (Ok done) = refusal ≡ None
Says refusal (Err r) = (r ≡ OutOfMemory) ⊎ (refusal ≡ Some r)
