-- The lines that the program writes to its standard error.
use Rattle.std.specs.Prelude.{ℕ, List, [], ◌∷◌, ◌++◌, codes, slice_get}
use Rattle.std.specs.Option.{option_map_or}
use Rattle.json.specs.Print.{quoted}
use Rattle.interface_names.specs.declared.records.FederateRecord.{FederateRecord}
use Rattle.machine_laws.specs.declared.logs.FedLog.{FedLog}
use Rattle.federation_plan.specs.Interfaces.{federate_at}
use Rattle.one_place.specs.Members.{text_of as failure_text}
use Rattle.scenario_reading.specs.Refusals.{text_of}
use Rattle.scenario_reading.specs.declared.refusal.Refusal.{Refusal}

-- the program's name, the text and a line feed
abbrev pub error_line : List ℕ → List ℕ
error_line text = codes "helics_run: " ++ text ++ 10 ∷ []

abbrev pub bad_words : List ℕ
bad_words = codes "bad words; use check FILE, sim FILE [--seed N] [--trace], load N, local FILE, run FILE, or fed FILE --link=ADDR/K"

abbrev pub cannot_read : List ℕ → List ℕ
cannot_read path = codes "cannot read " ++ path

abbrev pub cannot_write : List ℕ
cannot_write = codes "cannot write"

abbrev pub stuck : List ℕ
stuck = codes "stuck"

abbrev pub out_of_memory : List ℕ
out_of_memory = codes "out of memory"

-- a refusal's name and detail
abbrev pub refused : Refusal → List ℕ
refused refusal = codes "refused: " ++ text_of refusal

-- the text with which the federate of a number failed
abbrev pub failure_at : List FedLog → ℕ → List ℕ
failure_at logs f = option_map_or (λ (l : FedLog). failure_text l.end) (slice_get logs f) []

-- the federate whose failure ended the run, by its name, and the failure's text as JSON text
abbrev pub halted_by : List FederateRecord → List FedLog → ℕ → List ℕ
halted_by feds logs f = codes "halted by " ++ (federate_at feds f).name ++ codes ": failed " ++ quoted (failure_at logs f)
