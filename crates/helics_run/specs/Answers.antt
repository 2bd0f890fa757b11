-- What the parts of the program answer.
use Rattle.std.specs.Prelude.{ℕ, ◌≡◌, ◌⊎◌, List, Option, Result, Ok, Err}
use Rattle.hel_outside.specs.Faults.{Rose, Gains, GainsPart}
use Rattle.command_words.specs.declared.Verb.{Verb}
use Rattle.command_words.specs.declared.WordsRefusal.{WordsRefusal}
use Rattle.command_words.specs.declared.WordsRefusal.TheVariants as words
use Rattle.scenario_reading.specs.declared.unread.Unread.{Unread}
use Rattle.scenario_reading.specs.declared.unread.Unread.TheVariants as unread
use Rattle.helics_run.specs.declared.failure.Failure.{Failure}
use Rattle.helics_run.specs.declared.failure.Failure.TheVariants.{BadWords, FileFault, Refused, OutOfMemory}
use Rattle.helics_run.specs.declared.status.Status.{Status}
use Rattle.helics_run.specs.declared.status.Status.TheVariants.{SinkFault}
use Rattle.helics_run.specs.declared.printing.Printed.{Printed}
use Rattle.helics_run.specs.Lines.{error_line, bad_words, cannot_read, cannot_write, out_of_memory, refused}
use Rattle.helics_run.specs.Printing.{Content, PrintsBy, RefusesBy, AsksBy}
use Rattle.helics_run.specs.Command.{HasVerb, AskFor, Prints, Refuses, AsksAt}

-- failures of the parts below
abbrev pub failure_of_words : WordsRefusal → Failure
failure_of_words words.BadWords = BadWords
failure_of_words words.OutOfMemory = OutOfMemory

abbrev pub failure_of_unread : Unread → Failure
failure_of_unread (unread.FileFault path) = FileFault path
failure_of_unread (unread.Refused refusal) = Refused refusal
failure_of_unread unread.OutOfMemory = OutOfMemory

-- what is printed of the file for this word, or why nothing is
abbrev pub AnswersBy : Content → Verb → List ℕ → Result Printed Failure → Type 0
AnswersBy content verb file (Ok p) = PrintsBy content verb file p
AnswersBy content verb file (Err BadWords) = ⊥
AnswersBy content verb file (Err (FileFault path)) = AsksBy content verb file path
AnswersBy content verb file (Err (Refused refusal)) = RefusesBy content verb file refusal
AnswersBy content verb file (Err OutOfMemory) = Unit {0}

-- the same for all words
abbrev pub Answers : Content → List (List ℕ) → Result Printed Failure → Type 0
Answers content words (Ok p) = Prints content words p
Answers content words (Err BadWords) = ¬ AskFor words
Answers content words (Err (FileFault path)) = AsksAt content words path
Answers content words (Err (Refused refusal)) = Refuses content words refusal
Answers content words (Err OutOfMemory) = HasVerb words

-- the count of faults rose only in a failed read, whose path is kept
abbrev pub CountsFaults : {X : Type 0} → Result X Failure → ℕ → ℕ → List ℕ → Type 0
CountsFaults (Err (FileFault path)) before after failed_path = Rose before after × (failed_path ≡ path)
CountsFaults result before after failed_path = after ≡ before

-- the sink gained the line and the status is this one, or the sink failed and gained no more than a part of it
abbrev pub Tells : Status → List ℕ → Status → Option (List ℕ) → Option (List ℕ) → ℕ → ℕ → Type 0
Tells due line status written_before written_after faults_before faults_after =
    ((status ≡ due) × Gains written_before written_after line × (faults_after ≡ faults_before))
    ⊎ ((status ≡ SinkFault) × Rose faults_before faults_after × GainsPart written_before written_after line)

-- the line that tells an answer, or nothing
abbrev pub line_of : Result Printed Failure → List ℕ
line_of (Ok p) = p.err
line_of (Err BadWords) = error_line bad_words
line_of (Err (FileFault path)) = error_line (cannot_read path)
line_of (Err (Refused refusal)) = error_line (refused refusal)
line_of (Err OutOfMemory) = error_line out_of_memory

-- a line that these words may bring: that a sink which failed can't be written, that memory was wanting, or what tells
-- an answer that counted its faults
abbrev pub MayTell : Content → List (List ℕ) → Type 0 → (Result Printed Failure → Type 0) → List ℕ → Type 0
MayTell content words OutFailed Counted line =
    ((line ≡ error_line cannot_write) × OutFailed) ⊎ ((line ≡ error_line out_of_memory) × HasVerb words)
    ⊎ ((answer : Result Printed Failure) × Answers content words answer × Counted answer × (line ≡ line_of answer))
