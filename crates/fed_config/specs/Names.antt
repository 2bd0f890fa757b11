-- What the code keeps while it reads a script.
use Rattle.std.specs.Prelude.{◌≤◌, ◌^◌, length, List, [], ◌∷◌}
use Rattle.interface_names.specs.declared.records.FederateRecord.{FederateRecord}
use Rattle.std.specs.List.{repeat}
use Rattle.fed_script.specs.Script.{NamesTime}
use Rattle.fed_script.specs.declared.word.Word.{Word}
use Rattle.fed_config.specs.Places.{place_at}
use Rattle.fed_config.specs.Scripts.{Known}
use Rattle.fed_config.specs.declared.names.Names.{Names}
use Rattle.fed_config.specs.declared.scripts.Step.{Step}
use Rattle.fed_config.specs.declared.scripts.Step.TheVariants as steps

-- what names a table knows
abbrev pub known : Names → Known
known n = record { publications = place_at n.publications; endpoints = place_at n.endpoints; inputs = n.inputs }

-- each interface of a federate has a number of 16 bits
abbrev pub HasFew : FederateRecord → Type 0
HasFew f = (length f.publications ≤ 2 ^ 16) × (length f.inputs ≤ 2 ^ 16) × (length f.endpoints ≤ 2 ^ 16)

-- the words of a step, with each repeat written out
abbrev pub step_words : Step → List Word
step_words (steps.Word word) = word ∷ []
step_words (steps.Repeat times body) = repeat times body

abbrev pub StepNamesTime : Step → Type 0
StepNamesTime (steps.Word word) = NamesTime word
StepNamesTime (steps.Repeat times body) = Unit {0}
