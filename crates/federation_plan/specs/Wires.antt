-- What the machine reads of a plan: which calls a federate has, and what they send.
use Rattle.std.specs.Prelude.{ℕ, ◌+◌, Bool, true, false, if◌then◌else◌, List, [], ◌∷◌, map, slice_get, Option, Some, None, option_and_then}
use Rattle.helics_time.specs.Stamp.{next_of}
use Rattle.hel_values.specs.declared.EndRef.{EndRef}
use Rattle.hel_values.specs.declared.Value.{Value}
use Rattle.hel_values.specs.Values.{kind_of, same_kind}
use Rattle.due_queue.specs.declared.item.Content.TheVariants.{Value as ValueContent, Message}
use Rattle.interface_names.specs.declared.records.PubRecord.{PubRecord}
use Rattle.interface_names.specs.declared.records.EndRecord.{EndRecord}
use Rattle.interface_names.specs.declared.records.FederateRecord.{FederateRecord}
use Rattle.message_filters.specs.declared.chain.Filtered.{Filtered}
use Rattle.message_filters.specs.declared.chain.Filtered.TheVariants.{Kept, Dropped}
use Rattle.dependency_paths.specs.Paths.{row_of}
use Rattle.machine_laws.specs.Plan.{Call, Leg, Plan}
use Rattle.machine_laws.specs.Plan.Call.{publish, send}
use Rattle.machine_laws.specs.declared.refusal.CallRefusal.{CallRefusal}
use Rattle.machine_laws.specs.declared.refusal.CallRefusal.TheVariants.{NotOwner, KindMismatch, UnknownEndpoint, NotATarget}
use Rattle.federation_plan.specs.declared.tree.NodeKind.{NodeKind}
use Rattle.federation_plan.specs.declared.tree.NodeKind.TheVariants.{Core}
use Rattle.federation_plan.specs.Interfaces.{federate_at, endpoint_of}
use Rattle.federation_plan.specs.Chains.{may_send, filtered_at}
use Rattle.federation_plan.specs.Tree.{kind_at}
use Rattle.federation_plan.specs.Plan.{Federation, targets_of, core_at}

-- how long what a sends to f is delayed by their settings
abbrev pub delay_between : List FederateRecord → ℕ → ℕ → ℕ
delay_between feds a f = (federate_at feds a).settings.output_delay + (federate_at feds f).settings.input_delay

-- ---- values

-- a publication takes values of its kind alone, and there is none past the last
abbrev pub kind_objection : Option PubRecord → Value → Option CallRefusal
kind_objection None value = Some NotOwner
kind_objection (Some p) value = if same_kind p.kind (kind_of value) then None else Some KindMismatch

abbrev pub publication_in : List FederateRecord → ℕ → ℕ → Option PubRecord
publication_in feds f n = slice_get (federate_at feds f).publications n

-- what a value sends to an input
abbrev pub leg_to : List FederateRecord → EndRef → Value → EndRef → Leg
leg_to feds publication value input =
    record {
      target = input.fed;
      delay = delay_between feds publication.fed input.fed;
      content = λ time. ValueContent input.index publication value;
    }

-- one to each input that targets the publication
abbrev pub values_by : List FederateRecord → EndRef → Value → List Leg
values_by feds publication value = map (leg_to feds publication value) (targets_of feds publication)

-- ---- messages

abbrev pub endpoint_in : List FederateRecord → ℕ → ℕ → Option EndRecord
endpoint_in feds f n = slice_get (federate_at feds f).endpoints n

-- the name that a send means: an empty one is that of the default destination, where there is one
abbrev pub name_meant : EndRecord → List ℕ → Option (List ℕ)
name_meant e [] = e.default_destination
name_meant e (c ∷ name) = Some (c ∷ name)

-- the endpoint that it means
abbrev pub destined : List FederateRecord → EndRecord → List ℕ → Option EndRef
destined feds e name = option_and_then (endpoint_of feds) (name_meant e name)

-- an endpoint sends where it may, and there is none past the last
abbrev pub target_objection : List FederateRecord → EndRef → Option EndRef → Option CallRefusal
target_objection feds from None = Some UnknownEndpoint
target_objection feds from (Some to) = if may_send feds from to then None else Some NotATarget

abbrev pub send_objection : List FederateRecord → EndRef → Option EndRecord → List ℕ → Option CallRefusal
send_objection feds from None name = Some NotOwner
send_objection feds from (Some e) name = target_objection feds from (destined feds e name)

-- what a message sends to the endpoint at which the filters let it arrive; one that a filter drops sends nothing
abbrev pub message_leg : List FederateRecord → EndRef → EndRef → List ℕ → Filtered → Option Leg
message_leg feds from to payload (Kept end delay) =
    Some (record {
      target = end.fed;
      delay = delay_between feds from.fed end.fed + delay;
      content = λ time. Message (record {
        source = from;
        original_source = from;
        destination = end;
        original_destination = to;
        time = time;
        payload = payload;
      });
    })
message_leg feds from to payload (Dropped place) = None

abbrev pub message_to : List FederateRecord → EndRef → ℕ → List ℕ → Option EndRef → Option Leg
message_to feds from seq payload None = None
message_to feds from seq payload (Some to) = if may_send feds from to then message_leg feds from to payload (filtered_at feds from seq to) else None

abbrev pub message_by : List FederateRecord → EndRef → Option EndRecord → ℕ → List ℕ → List ℕ → Option Leg
message_by feds from None seq name payload = None
message_by feds from (Some e) seq name payload = message_to feds from seq payload (destined feds e name)

-- ---- the plan

-- why a federate has no such call
abbrev pub objection : List FederateRecord → ℕ → Call → Option CallRefusal
objection feds f (publish publication value) = kind_objection (publication_in feds f publication) value
objection feds f (send endpoint name payload) = send_objection feds (record { fed = f; index = endpoint }) (endpoint_in feds f endpoint) name

abbrev pub is_core_kind : NodeKind → Bool
is_core_kind Core = true
is_core_kind kind = false

-- what the machine reads of it
abbrev pub wires_of : Federation → Plan
wires_of p =
    record {
      settings = map (λ (f : FederateRecord). f.settings) p.federates;
      core = core_at p;
      is_core = λ z. is_core_kind (kind_at p.tree.nodes z);
      ancestors = row_of p.ancestors;
      objects = objection p.federates;
      publishes = λ f publication value. values_by p.federates (record { fed = f; index = publication }) value;
      sends = λ f endpoint seq name payload. message_by p.federates (record { fed = f; index = endpoint }) (endpoint_in p.federates f endpoint) seq name payload;
      first = λ a s. next_of s;
    }
