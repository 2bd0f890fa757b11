-- What an input holds after any calls.
use Rattle.std.specs.Prelude.{◌≡◌, ◌≢◌, ◌↔◌, IsTrue, Option, Some, None, List, [], ◌∷◌, ◌++◌}
use Rattle.hel_lists.specs.Members.{Each}
use Rattle.hel_values.specs.declared.Value.{Value}
use Rattle.value_updates.specs.Input.{Call, applies, starts_grant, opening, run}

-- the values applied, in order
abbrev pub applied : List Call → List Value
applied [] = []
applied (applies v ∷ calls) = v ∷ applied calls
applied (starts_grant ∷ calls) = applied calls

-- it is the last of them, if there are any
abbrev pub IsLast : List Value → Option Value → Type 0
IsLast values None = values ≡ []
IsLast values (Some v) = (front : List Value) × (values ≡ front ++ v ∷ [])

-- one was applied with no start of a grant behind it
abbrev pub IsAppliedSince : List Call → Type 0
IsAppliedSince calls = (front : List Call) × (v : Value) × (back : List Call) × (calls ≡ front ++ applies v ∷ back) × Each (λ call. call ≢ starts_grant) back

pub record InputLaws : Type 0 where
  pub value : (calls : List Call) → IsLast (applied calls) (run opening calls).value
  pub mark : (calls : List Call) → IsTrue (run opening calls).updated ↔ IsAppliedSince calls
