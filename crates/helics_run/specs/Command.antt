-- What the program answers to its words.
use Rattle.std.specs.Prelude.{ℕ, ◌≡◌, ◌⊎◌, List, [], ◌∷◌, IsSome, Ok, map, string_bytes, String}
use Rattle.std.specs.declared.alloc.Global.{Global}
use Rattle.command_words.specs.declared.Asked.{Asked}
use Rattle.command_words.specs.declared.Verb.TheVariants.{Sim}
use Rattle.command_words.specs.Words.{verb_of, IsAsked}
use Rattle.fed_script.specs.Script.{Course}
use Rattle.machine_laws.specs.Laws.{WaitForEachOther}
use Rattle.federation_plan.specs.Plan.{Federation}
use Rattle.federation_plan.specs.Wires.{wires_of}
use Rattle.scenario_reading.specs.Order.{Reads}
use Rattle.scenario_reading.specs.Fitting.{Scene}
use Rattle.scenario_reading.specs.Reading.{scenario_at}
use Rattle.scenario_reading.specs.declared.refusal.Refusal.{Refusal}
use Rattle.helics_run.specs.declared.status.Status.{Status}
use Rattle.helics_run.specs.declared.status.Status.TheVariants.{Done, Halted, SinkFault, OutsideFault, LinkFault, Stuck, OutOfMemory, CountLimit, Mismatch}
use Rattle.helics_run.specs.declared.printing.Printed.{Printed}
use Rattle.helics_run.specs.Printing.{Content, IsPlanOf, PrintsBy, RefusesBy, AsksBy}

-- the words as texts
abbrev pub texts : List (String Global) → List (List ℕ)
texts words = map string_bytes words

-- the first word is one of the program's
abbrev pub HasVerb : List (List ℕ) → Type 0
HasVerb [] = ⊥
HasVerb (first ∷ rest) = IsSome (verb_of first)

-- the words ask for something
abbrev pub AskFor : List (List ℕ) → Type 0
AskFor words = (a : Asked) × IsAsked words a

-- what they ask for is printed, is refused, or reads the path
abbrev pub Prints : Content → List (List ℕ) → Printed → Type 0
Prints content words p = (a : Asked) × IsAsked words a × PrintsBy content a.verb a.file p

abbrev pub Refuses : Content → List (List ℕ) → Refusal → Type 0
Refuses content words refusal = (a : Asked) × IsAsked words a × RefusesBy content a.verb a.file refusal

abbrev pub AsksAt : Content → List (List ℕ) → List ℕ → Type 0
AsksAt content words path = (a : Asked) × IsAsked words a × AsksBy content a.verb a.file path

-- the plan of the scenario for which `sim` and a file ask
abbrev pub IsPlanAt : Content → List (List ℕ) → Federation → Type 0
IsPlanAt content words plan =
    (a : Asked) × IsAsked words a × (a.verb ≡ Sim) × ((scenario : Scene Course) × (Reads content (scenario_at a.file) (Ok scenario) × IsPlanOf scenario plan))

-- no two of its federates that wait for current updates are each other's ancestors
abbrev pub NoneWait : Federation → Type 0
NoneWait plan = (a b : ℕ) → WaitForEachOther (wires_of plan) a b → ⊥

-- all that these words ask for is told
abbrev pub TellsAll : Content → List (List ℕ) → Type 0
TellsAll content words = (path : List ℕ) → AsksAt content words path → IsSome (content path)

-- the statuses with which something is printed
abbrev pub IsPrinting : Status → Type 0
IsPrinting Done = Unit {0}
IsPrinting Halted = Unit {0}
IsPrinting Stuck = Unit {0}
IsPrinting status = ⊥

-- a status that no words have so far
abbrev pub IsLater : Status → Type 0
IsLater OutsideFault = Unit {0}
IsLater LinkFault = Unit {0}
IsLater CountLimit = Unit {0}
IsLater Mismatch = Unit {0}
IsLater status = ⊥

-- this status is due, and yields to 5 and 9 alone
abbrev pub Stands : Status → Status → Type 0
Stands due status = (status ≡ due) ⊎ (status ≡ SinkFault) ⊎ (status ≡ OutOfMemory)
