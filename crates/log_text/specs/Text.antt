-- The text of logs: each line ends with a line feed.
use Rattle.std.specs.Prelude.{ℕ, List, [], ◌∷◌, ◌++◌, codes, decimal}
use Rattle.std.specs.List.{flat_map, enumerate_from}
use Rattle.std.specs.Fmt.{signed_decimal}
use Rattle.json.specs.Print.{quoted}
use Rattle.hex.specs.Hex.{encode_lower}
use Rattle.helics_time.specs.Time.{time_text}
use Rattle.iteration_rules.specs.declared.Kind.{Kind}
use Rattle.iteration_rules.specs.declared.Kind.TheVariants.{NextStep, Iterating}
use Rattle.hel_values.specs.declared.Value.{Value}
use Rattle.hel_values.specs.declared.Value.TheVariants.{Int as IntValue, Text as TextValue, Bytes as BytesValue}
use Rattle.due_queue.specs.Item.{Parcel}
use Rattle.due_queue.specs.declared.item.Content.{Content}
use Rattle.due_queue.specs.declared.item.Content.TheVariants.{Value as ValueContent, Message}
use Rattle.time_state.specs.declared.Cause.{Cause}
use Rattle.time_state.specs.declared.Cause.TheVariants.{Finished, Failed, Died, Halted}
use Rattle.time_state.specs.declared.Phase.{Phase}
use Rattle.time_state.specs.declared.Phase.TheVariants.{Entering, Waiting}
use Rattle.machine_laws.specs.declared.logs.LogEntry.{LogEntry}
use Rattle.machine_laws.specs.declared.logs.LogEnd.{LogEnd}
use Rattle.machine_laws.specs.declared.logs.LogEnd.TheVariants.{Ended, FailedText, Open}
use Rattle.machine_laws.specs.declared.logs.FedLog.{FedLog}
use Rattle.interface_names.specs.declared.records.FederateRecord.{FederateRecord}
use Rattle.federation_plan.specs.Interfaces.{federate_at, publication_interface, endpoint_at, pub_name, end_name}

abbrev pub line : List ℕ → List ℕ
line text = text ++ 10 ∷ []

-- ---- a grant, and what it handed over

abbrev pub kind_word : Kind → List ℕ
kind_word NextStep = codes "next"
kind_word Iterating = codes "iterating"

abbrev pub grant_text : LogEntry → List ℕ
grant_text e = line (codes "grant " ++ time_text e.grant.time ++ 32 ∷ decimal e.grant.micro ++ 32 ∷ kind_word e.grant.kind)

-- a value behind its kind: an integer in decimal, a text as JSON text, bytes in hex
abbrev pub value_text : Value → List ℕ
value_text (IntValue n) = codes "int " ++ signed_decimal n
value_text (TextValue text) = codes "text " ++ quoted text
value_text (BytesValue bytes) = codes "bytes " ++ encode_lower bytes

-- the line of an item: a value for an input, or a message for an endpoint with its original source and destination
abbrev pub content_text : List FederateRecord → Content → List ℕ
content_text feds (ValueContent input publication value) =
    line (codes "value " ++ decimal input ++ codes " from " ++ pub_name (publication_interface feds publication) ++ 32 ∷ value_text value)
content_text feds (Message m) =
    line (codes "message " ++ decimal m.destination.index
    ++ codes " from " ++ end_name (endpoint_at feds m.original_source)
    ++ codes " for " ++ end_name (endpoint_at feds m.original_destination)
    ++ codes " at " ++ time_text m.time
    ++ codes " bytes " ++ encode_lower m.payload)

abbrev pub item_text : List FederateRecord → Parcel → List ℕ
item_text feds i = content_text feds i.content

-- a grant, and a line for each item that it handed over
abbrev pub entry_text : List FederateRecord → LogEntry → List ℕ
entry_text feds e = grant_text e ++ flat_map (item_text feds) e.items

-- ---- the logs

abbrev pub cause_word : Cause → List ℕ
cause_word Finished = codes "finished"
cause_word Failed = codes "failed"
cause_word Died = codes "died"
cause_word (Halted f) = codes "halted"

abbrev pub phase_word : Phase → List ℕ
phase_word Entering = codes "waiting"
phase_word Waiting = codes "waiting"
phase_word phase = codes "open"

-- the text of a failure stands as JSON text
abbrev pub end_words : LogEnd → List ℕ
end_words (Ended cause) = cause_word cause
end_words (FailedText text) = codes "failed " ++ quoted text
end_words (Open phase) = phase_word phase

-- a federate's number and name, its grants, and its end
abbrev pub fed_text : List FederateRecord → ℕ → FedLog → List ℕ
fed_text feds k log =
    line (codes "federate " ++ decimal k ++ 32 ∷ (federate_at feds k).name)
    ++ flat_map (entry_text feds) log.entries
    ++ line (codes "end " ++ end_words log.end)

-- the text of the logs of federates, which are numbered from 0 on
abbrev pub logs_text : List FederateRecord → List FedLog → List ℕ
logs_text feds logs = flat_map (λ (numbered : ℕ × FedLog). fed_text feds numbered.0 numbered.1) (enumerate_from 0 logs)
