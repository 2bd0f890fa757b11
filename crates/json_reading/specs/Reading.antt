-- Reading a JSON value: what it holds, or the first refusal with its place.
use Rattle.std.specs.Prelude.{ℕ, ◌≡◌, ◌≢◌, IfErr, ◌+◌, ◌⊎◌, List, [], ◌∷◌, ◌++◌, decimal, nat_lt, if◌then◌else◌, Option, Some, None, ok_or, Result, Ok, Err}
use Rattle.std.specs.Option.{option_or}
use Rattle.serde_json.specs.Data.{Data, Items, no_items, item}
use Rattle.serde_json.specs.Find.{as_array}
use Rattle.json_reading.specs.Keys.{Member, member_at, object_of, is_doubled}
use Rattle.json_reading.specs.declared.refusal.ConfigCause.{ConfigCause}
use Rattle.json_reading.specs.declared.refusal.ConfigCause.TheVariants.{NotAnObject, NotAList, OutOfRange, Missing, DoubledKey, OutOfMemory}
use Rattle.serde_json.specs.Events.{items_len}
use Rattle.json_reading.specs.declared.refusal.ConfigRefusal.{ConfigRefusal}

-- what a value holds, or the first refusal
abbrev pub Read : Type 0 → Type 0
Read A = Result A ConfigRefusal

-- what comes next where there is no refusal yet
infixl 10 ◌>>=◌
abbrev pub ◌>>=◌ : {A B E : Type 0} → Result A E → (A → Result B E) → Result B E
(Ok x) >>= f = f x
(Err e) >>= f = Err e

-- ---- places

abbrev pub refused : List ℕ → ConfigCause → ConfigRefusal
refused path cause = record { path = path; cause = cause }

-- a refusal below a key or a place of a list
abbrev pub below : List ℕ → ConfigRefusal → ConfigRefusal
below step e = refused (47 ∷ step ++ e.path) e.cause

-- refused at the value itself
abbrev pub here : {A : Type 0} → Result A ConfigCause → Read A
here (Ok x) = Ok x
here (Err cause) = Err (refused [] cause)

-- what is read below a key or a place of a list
abbrev pub under : {A : Type 0} → List ℕ → Read A → Read A
under step (Ok x) = Ok x
under step (Err e) = Err (below step e)

-- ---- objects

-- the members of an object, of which no two stand for one key of a table
abbrev pub members_of : List (List ℕ) → Data → Read (List Member)
members_of table value =
    here (ok_or (object_of value) NotAnObject >>= λ members. if is_doubled table members then Err DoubledKey else Ok members)

-- what is read at a member, where there is one
abbrev pub at_optional : {A : Type 0} → (Data → Read A) → Option Member → Read (Option A)
at_optional read None = Ok None
at_optional read (Some m) = under m.0 (read m.1) >>= λ x. Ok (Some x)

-- what is read at a member, which has to be there
abbrev pub at_needed : {A : Type 0} → List ℕ → (Data → Read A) → Option Member → Read A
at_needed key read None = Err (below key (refused [] Missing))
at_needed key read (Some m) = under m.0 (read m.1)

-- the first of two keys that stands there
abbrev pub either_member : List ℕ → List ℕ → List Member → Option Member
either_member key other members = option_or (member_at key members) (member_at other members)

abbrev pub optional_at : {A : Type 0} → List ℕ → (Data → Read A) → List Member → Read (Option A)
optional_at key read members = at_optional read (member_at key members)

abbrev pub needed_at : {A : Type 0} → List ℕ → (Data → Read A) → List Member → Read A
needed_at key read members = at_needed key read (member_at key members)

-- the same at the first of two keys
abbrev pub optional_either_at : {A : Type 0} → List ℕ → List ℕ → (Data → Read A) → List Member → Read (Option A)
optional_either_at key other read members = at_optional read (either_member key other members)

abbrev pub needed_either_at : {A : Type 0} → List ℕ → List ℕ → (Data → Read A) → List Member → Read A
needed_either_at key other read members = at_needed key read (either_member key other members)

-- ---- lists

-- what each item holds, the first at this place
unfoldable pub each_from : {A : Type 0} → (Data → Read A) → ℕ → Items → Read (List A)
each_from read place no_items = Ok []
each_from read place (item value more) = do
  x ← under (decimal place) (read value)
  xs ← each_from read (place + 1) more
  Ok (x ∷ xs)

-- a list of at most so many items
abbrev pub few_items : ℕ → Option Items → Result Items ConfigCause
few_items most list = ok_or list NotAList >>= λ items. if nat_lt most (items_len items) then Err OutOfRange else Ok items

-- a list, each item read so
abbrev pub list_of : {A : Type 0} → (Data → Read A) → Data → Read (List A)
list_of read value = here (ok_or (as_array value) NotAList) >>= λ items. each_from read 0 items

-- a list of at most so many items, each read so
abbrev pub list_up_to : {A : Type 0} → ℕ → (Data → Read A) → Data → Read (List A)
list_up_to most read value = here (few_items most (as_array value)) >>= λ items. each_from read 0 items

-- ---- what the code answers

abbrev pub no_memory : ConfigRefusal
no_memory = refused [] OutOfMemory

-- memory was wanting, or it is this refusal
abbrev pub Stands : ConfigRefusal → ConfigRefusal → Type 0
Stands e told = (e ≡ no_memory) ⊎ (e ≡ told)

-- memory wasn't wanting
abbrev pub HadMemory : {X : Type 0} → Result X ConfigRefusal → Type 0
HadMemory result = IfErr result (λ refusal. refusal.cause ≢ OutOfMemory)

-- the code gives what is read, or memory was wanting
abbrev pub Gives : {X Y : Type 0} → (X → Y) → Result X ConfigRefusal → Read Y → Type 0
Gives seen (Ok x) read = read ≡ Ok (seen x)
Gives seen (Err e) read = (e.cause ≡ OutOfMemory) ⊎ (read ≡ Err e)
