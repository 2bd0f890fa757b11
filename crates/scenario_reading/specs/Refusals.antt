-- The text of a refusal: its name and its detail.
use Rattle.std.specs.Prelude.{ℕ, Bool, ◌&&◌, nat_le, if◌then◌else◌, List, [], ◌++◌, codes, decimal, Option, Some, None}
use Rattle.std.specs.List.{list_all}
use Rattle.json.specs.Print.{quoted}
use Rattle.helics_time.specs.declared.parse.TimeText.{TimeText}
use Rattle.json_reading.specs.declared.refusal.ConfigCause.{ConfigCause}
use Rattle.interface_names.specs.declared.registry.RegistryRefusal.{RegistryRefusal}
use Rattle.runner_config.specs.declared.refusal.TreeCause.{TreeCause}
use Rattle.runner_config.specs.declared.refusal.RunnerRefusal.{RunnerRefusal}
use Rattle.scenario_reading.specs.declared.refusal.Refusal.{Refusal}
use Rattle.scenario_reading.specs.declared.refusal.Refusal.TheVariants.{FileTooLarge, Runner, NoConfig, Config, NotBuilt, Federate, NoFederates, MissingRequired, KindMismatch, FilterTarget, ChainTooLong, NoScript}

-- two texts with a space between them
abbrev pub beside : List ℕ → List ℕ → List ℕ
beside first second = first ++ codes " " ++ second

abbrev pub at_place : List ℕ → ℕ → List ℕ
at_place path place = beside path (decimal place)

-- ---- names in details

abbrev pub is_shown : ℕ → Bool
is_shown byte = nat_le 0x21 byte && nat_le byte 0x7e

-- a name, as JSON text where it holds another character than those from U+0021 to U+007E
abbrev pub shown : List ℕ → List ℕ
shown name = if list_all is_shown name then name else quoted name

abbrev pub two_shown : List ℕ → List ℕ → List ℕ
two_shown first second = beside (shown first) (shown second)

-- ---- the runner file

abbrev pub tree_word : TreeCause → List ℕ
tree_word TreeCause.Shape = codes "Shape"
tree_word TreeCause.NameTwice = codes "NameTwice"
tree_word TreeCause.UnknownParent = codes "UnknownParent"
tree_word TreeCause.UnknownCore = codes "UnknownCore"
tree_word TreeCause.TooManyNodes = codes "TooManyNodes"

abbrev pub runner_name : RunnerRefusal → List ℕ
runner_name RunnerRefusal.NotJson = codes "NotJson"
runner_name RunnerRefusal.NotAnObject = codes "NotAnObject"
runner_name RunnerRefusal.NoFederates = codes "NoFederates"
runner_name (RunnerRefusal.BadEntry place) = codes "BadEntry"
runner_name (RunnerRefusal.MissingName place) = codes "MissingName"
runner_name (RunnerRefusal.MissingExec place) = codes "MissingExec"
runner_name (RunnerRefusal.UnclosedQuote place) = codes "UnclosedQuote"
runner_name (RunnerRefusal.HostNotLocal place) = codes "HostNotLocal"
runner_name (RunnerRefusal.TwoBrokers place) = codes "TwoBrokers"
runner_name (RunnerRefusal.BadTree cause) = codes "BadTree"
runner_name (RunnerRefusal.BrokerCount place) = codes "BrokerCount"
runner_name RunnerRefusal.OutOfMemory = codes "OutOfMemory"

-- the place of an entry that is refused
abbrev pub place_in : RunnerRefusal → Option ℕ
place_in (RunnerRefusal.BadEntry place) = Some place
place_in (RunnerRefusal.MissingName place) = Some place
place_in (RunnerRefusal.MissingExec place) = Some place
place_in (RunnerRefusal.UnclosedQuote place) = Some place
place_in (RunnerRefusal.HostNotLocal place) = Some place
place_in (RunnerRefusal.TwoBrokers place) = Some place
place_in (RunnerRefusal.BrokerCount place) = Some place
place_in other = None

abbrev pub placed : List ℕ → Option ℕ → List ℕ
placed path None = path
placed path (Some place) = at_place path place

abbrev pub runner_detail : List ℕ → RunnerRefusal → List ℕ
runner_detail path (RunnerRefusal.BadTree cause) = beside path (tree_word cause)
runner_detail path other = placed path (place_in other)

-- ---- a federate file

abbrev pub time_word : TimeText → List ℕ
time_word TimeText.NotANumber = codes "NotANumber"
time_word TimeText.UnknownUnit = codes "UnknownUnit"
time_word TimeText.NotWhole = codes "NotWhole"
time_word TimeText.TooLarge = codes "TooLarge"

abbrev pub cause_name : ConfigCause → List ℕ
cause_name ConfigCause.NotJson = codes "NotJson"
cause_name ConfigCause.NotAnObject = codes "NotAnObject"
cause_name ConfigCause.NotAList = codes "NotAList"
cause_name ConfigCause.NotAText = codes "NotAText"
cause_name ConfigCause.NotABool = codes "NotABool"
cause_name ConfigCause.NotATime = codes "NotATime"
cause_name (ConfigCause.Time refusal) = time_word refusal
cause_name ConfigCause.NotANumber = codes "NotANumber"
cause_name ConfigCause.OutOfRange = codes "OutOfRange"
cause_name ConfigCause.Missing = codes "Missing"
cause_name ConfigCause.UnknownWord = codes "UnknownWord"
cause_name ConfigCause.DoubledKey = codes "DoubledKey"
cause_name ConfigCause.BadHex = codes "BadHex"
cause_name ConfigCause.TooManySteps = codes "TooManySteps"
cause_name ConfigCause.TooDeep = codes "TooDeep"
cause_name ConfigCause.OutOfMemory = codes "OutOfMemory"

-- ---- the federation

abbrev pub registry_name : RegistryRefusal → List ℕ
registry_name RegistryRefusal.TooManyFederates = codes "TooManyFederates"
registry_name RegistryRefusal.BadName = codes "BadName"
registry_name RegistryRefusal.DuplicateFederate = codes "DuplicateFederate"
registry_name RegistryRefusal.TooManyInterfaces = codes "TooManyInterfaces"
registry_name (RegistryRefusal.DuplicateName name) = codes "DuplicateName"
registry_name RegistryRefusal.OutOfMemory = codes "OutOfMemory"

abbrev pub registry_detail : List ℕ → RegistryRefusal → List ℕ
registry_detail federate (RegistryRefusal.DuplicateName name) = shown name
registry_detail federate other = shown federate

-- ---- every refusal

abbrev pub name_of : Refusal → List ℕ
name_of (FileTooLarge path) = codes "FileTooLarge"
name_of (Runner path refusal) = runner_name refusal
name_of (NoConfig path place) = codes "NoConfig"
name_of (Config path refusal) = cause_name refusal.cause
name_of (NotBuilt path) = codes "NotBuilt"
name_of (Federate name refusal) = registry_name refusal
name_of NoFederates = codes "NoFederates"
name_of (MissingRequired federate target) = codes "MissingRequired"
name_of (KindMismatch federate publication) = codes "KindMismatch"
name_of (FilterTarget name) = codes "FilterTarget"
name_of (ChainTooLong endpoint) = codes "ChainTooLong"
name_of (NoScript federate) = codes "NoScript"

abbrev pub detail_of : Refusal → List ℕ
detail_of (FileTooLarge path) = path
detail_of (Runner path refusal) = runner_detail path refusal
detail_of (NoConfig path place) = at_place path place
detail_of (Config path refusal) = beside path refusal.path
detail_of (NotBuilt path) = path
detail_of (Federate name refusal) = registry_detail name refusal
detail_of NoFederates = []
detail_of (MissingRequired federate target) = two_shown federate target
detail_of (KindMismatch federate publication) = two_shown federate publication
detail_of (FilterTarget name) = shown name
detail_of (ChainTooLong endpoint) = shown endpoint
detail_of (NoScript federate) = shown federate

abbrev pub text_of : Refusal → List ℕ
text_of refusal = name_of refusal ++ codes ": " ++ detail_of refusal
