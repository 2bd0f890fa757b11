-- The links from federate to federate that one interface makes.
use Rattle.std.specs.Prelude.{ℕ, ◌<◌, ◌≡◌, Bool, false, nat_eq, nat_lt, ◌&&◌, length, List, Option, None, Some, is_none, if◌then◌else◌}
use Rattle.std.specs.List.{list_any}
use Rattle.hel_values.specs.declared.EndRef.{EndRef}
use Rattle.interface_names.specs.declared.records.InputRecord.{InputRecord}
use Rattle.interface_names.specs.declared.records.EndRecord.{EndRecord}
use Rattle.interface_names.specs.declared.records.FederateRecord.{FederateRecord}
use Rattle.federation_plan.specs.Interfaces.{Interface, name_fed, federate_at}

-- each name that means something means an interface of a federate below this number
abbrev pub AreBelow : ℕ → (List ℕ → Option EndRef) → Type 0
AreBelow count meaning = (name : List ℕ) (r : EndRef) → meaning name ≡ Some r → r.fed < count

-- an input of f takes values of a
abbrev pub takes : (List ℕ → Option EndRef) → ℕ → ℕ → Interface InputRecord → Bool
takes meaning a f i = nat_eq f i.ref.fed && name_fed meaning i.item.targets a

-- a federate has endpoints
abbrev pub has_endpoint : List FederateRecord → ℕ → Bool
has_endpoint feds f = nat_lt 0 (length (federate_at feds f).endpoints)

-- an endpoint, whose last reroute is given, sends to f, as far as it says itself
abbrev pub sends_to : (List ℕ → Option EndRef) → List FederateRecord → Option EndRef → EndRecord → ℕ → Bool
sends_to meaning feds None e f = if e.targeted then name_fed meaning e.destination_targets f else has_endpoint feds f
sends_to meaning feds (Some r) e f = nat_eq f r.fed

abbrev pub sends : (List ℕ → Option EndRef) → List FederateRecord → (EndRef → Option EndRef) → ℕ → ℕ → Interface EndRecord → Bool
sends meaning feds rerouted a f e = nat_eq a e.ref.fed && sends_to meaning feds (rerouted e.ref) e.item f

-- an endpoint of a that isn't rerouted
abbrev pub is_sender : (EndRef → Option EndRef) → ℕ → Option EndRef → Bool
is_sender rerouted a None = false
is_sender rerouted a (Some e) = nat_eq a e.fed && is_none (rerouted e)

-- an endpoint of f names one of a among its source targets
abbrev pub hears : (List ℕ → Option EndRef) → (EndRef → Option EndRef) → ℕ → ℕ → Interface EndRecord → Bool
hears meaning rerouted a f x = nat_eq f x.ref.fed && list_any (λ name. is_sender rerouted a (meaning name)) x.item.source_targets
