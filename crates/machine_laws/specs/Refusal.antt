-- Refusals of calls, and their names.
use Rattle.std.specs.Prelude.{ℕ, List, codes}
use Rattle.time_state.specs.declared.TimeRefusal.{TimeRefusal}
use Rattle.time_state.specs.declared.TimeRefusal.TheVariants.{Ended as TimeEnded, WrongPhase as TimeWrongPhase, PastHorizon as TimePastHorizon}
use Rattle.machine_laws.specs.declared.refusal.CallRefusal.{CallRefusal}
use Rattle.machine_laws.specs.declared.refusal.CallRefusal.TheVariants.{Ended, WrongPhase, NotOwner, KindMismatch, UnknownEndpoint, NotATarget, PastHorizon, MicroLimit, CountLimit, OutOfMemory}

-- a refusal of a federate's time as one of its call
abbrev pub refusal_by_time : TimeRefusal → CallRefusal
refusal_by_time (TimeEnded cause) = Ended cause
refusal_by_time (TimeWrongPhase phase) = WrongPhase phase
refusal_by_time TimePastHorizon = PastHorizon

-- the text with which a script fails whose call is refused
abbrev pub refusal_word : CallRefusal → List ℕ
refusal_word (Ended cause) = codes "Ended"
refusal_word (WrongPhase phase) = codes "WrongPhase"
refusal_word NotOwner = codes "NotOwner"
refusal_word KindMismatch = codes "KindMismatch"
refusal_word UnknownEndpoint = codes "UnknownEndpoint"
refusal_word NotATarget = codes "NotATarget"
refusal_word PastHorizon = codes "PastHorizon"
refusal_word MicroLimit = codes "MicroLimit"
refusal_word CountLimit = codes "CountLimit"
refusal_word OutOfMemory = codes "OutOfMemory"
