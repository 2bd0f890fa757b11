-- Orders of reading: which file is asked for next, by what those before it gave, and what comes of it.
use Rattle.std.specs.Prelude.{ℕ, ◌<◌, ◌≤◌, ◌≡◌, ◌⊎◌, List, [], ◌∷◌, length, Option, IfSome, Result, Ok, Err}
use Rattle.hel_outside.specs.Faults.{file_limit}
use Rattle.scenario_reading.specs.declared.refusal.Refusal.{Refusal}
use Rattle.scenario_reading.specs.declared.refusal.Refusal.TheVariants.{FileTooLarge}

-- what a file gave: its bytes, or that it is too large
pub data Given : Type 0 where
  bytes : List ℕ → Given
  too_large : Given

-- an order of reading ends with what is read or the first refusal, or asks for a file and goes on by
-- what that gives
pub data Order (A : Type 0) : Type 0 where
  ends : Result A Refusal → Order A
  asks : List ℕ → (Given → Order A) → Order A

infixl 10 ◌>>=◌
abbrev pub ◌>>=◌ : {A B : Type 0} → Order A → (A → Order B) → Order B
(ends (Ok x)) >>= f = f x
(ends (Err r)) >>= f = ends (Err r)
(asks path next) >>= f = asks path (λ given. next given >>= f)

-- what is read by each of a list, in order
unfoldable pub for_each : {A B : Type 0} → (A → Order B) → List A → Order (List B)
for_each one [] = ends (Ok [])
for_each one (x ∷ xs) = do
  y ← one x
  ys ← for_each one xs
  ends (Ok (y ∷ ys))

-- the bytes of a file
abbrev pub bytes_of : List ℕ → Order (List ℕ)
bytes_of path = asks path (λ given. by_given given)
  where
    by_given : Given → Order (List ℕ)
    by_given (bytes held) = ends (Ok held)
    by_given too_large = ends (Err (FileTooLarge path))

-- what may be given at a path of which the files tell this, or nothing
abbrev pub MayGive : Option (List ℕ) → Given → Type 0
MayGive told (bytes held) = IfSome told (λ b. held ≡ b) × (length held ≤ file_limit)
MayGive told too_large = IfSome told (λ b. file_limit < length b)

-- over files that tell this content, the order ends so, by what they may give
abbrev pub Reads : {A : Type 0} → (List ℕ → Option (List ℕ)) → Order A → Result A Refusal → Type 0
Reads content (ends end) result = result ≡ end
Reads content (asks path next) result =
    (given : Given) × (MayGive (content path) given × Reads content (next given) result)

-- over files that tell this content, the order comes to ask for the path, by what they may give
abbrev pub AsksFor : {A : Type 0} → (List ℕ → Option (List ℕ)) → Order A → List ℕ → Type 0
AsksFor content (ends end) path = ⊥
AsksFor content (asks first next) path =
    (path ≡ first) ⊎ ((given : Given) × (MayGive (content first) given × AsksFor content (next given) path))
