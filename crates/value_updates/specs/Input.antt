-- An input: the last value applied to it, and whether one came since its federate's last grant began.
use Rattle.std.specs.Prelude.{Bool, true, false, Option, Some, None, List, [], ◌∷◌}
use Rattle.hel_values.specs.declared.Value.{Value}

pub record Input : Type 0 where
  pub value : Option Value
  pub updated : Bool

-- a call that changes an input
pub data Call : Type 0 where
  applies : Value → Call
  starts_grant : Call

abbrev pub opening : Input
opening = record { value = None; updated = false }

abbrev pub after : Input → Call → Input
after s (applies v) = record { value = Some v; updated = true }
after s starts_grant = record s { updated = false }

abbrev pub run : Input → List Call → Input
run s [] = s
run s (call ∷ calls) = run (after s call) calls
