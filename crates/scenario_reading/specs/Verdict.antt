-- What is read, or the first refusal, where no file is asked for.
use Rattle.std.specs.Prelude.{◌≡◌, Option, Some, None, Result, Ok, Err, ⊤}
use Rattle.scenario_reading.specs.declared.refusal.Refusal.{Refusal}
use Rattle.scenario_reading.specs.declared.unread.Unread.{Unread}
use Rattle.scenario_reading.specs.declared.unread.Unread.TheVariants.{FileFault, Refused, OutOfMemory}

abbrev pub Verdict : Type 0 → Type 0
Verdict A = Result A Refusal

abbrev pub unless_refused : {A : Type 0} → Option Refusal → A → Verdict A
unless_refused None x = Ok x
unless_refused (Some refusal) x = Err refusal

-- nothing is told but that there is no refusal
abbrev pub unrefused : Option Refusal → Verdict ⊤
unrefused refusal = unless_refused refusal tt

abbrev pub nothing : {X : Type 0} → X → ⊤
nothing x = tt

-- what was answered, seen so, is the verdict, or memory was wanting; no file was read
abbrev pub Says : {X A : Type 0} → (X → A) → Verdict A → Result X Unread → Type 0
Says seen said (Ok x) = said ≡ Ok (seen x)
Says seen said (Err (Refused refusal)) = said ≡ Err refusal
Says seen said (Err (FileFault path)) = ⊥
Says seen said (Err OutOfMemory) = Unit {0}
