-- Values, their kinds, references to interfaces, and whether two are the same.
use Rattle.std.specs.Prelude.{Bool, true, false, nat_eq, ◌&&◌}
use Rattle.std.specs.Ordering.{int_eq}
use Rattle.std.specs.Str.{bytes_eq}
use Rattle.hel_values.specs.declared.EndRef.{EndRef}
use Rattle.hel_values.specs.declared.Value.{Value}
use Rattle.hel_values.specs.declared.Value.TheVariants.{Int as IntValue, Text as TextValue, Bytes as BytesValue}
use Rattle.hel_values.specs.declared.ValueKind.{ValueKind}
use Rattle.hel_values.specs.declared.ValueKind.TheVariants.{Int, Text, Bytes}

-- which kind of value it is
abbrev pub kind_of : Value → ValueKind
kind_of (IntValue n) = Int
kind_of (TextValue t) = Text
kind_of (BytesValue b) = Bytes

-- they are of one kind and hold the same
abbrev pub same_value : Value → Value → Bool
same_value (IntValue n) (IntValue m) = int_eq n m
same_value (TextValue t) (TextValue u) = bytes_eq t u
same_value (BytesValue b) (BytesValue c) = bytes_eq b c
same_value v w = false

-- they are one kind
abbrev pub same_kind : ValueKind → ValueKind → Bool
same_kind Int Int = true
same_kind Text Text = true
same_kind Bytes Bytes = true
same_kind a b = false

-- they are one federate's, and have one number
abbrev pub same_end : EndRef → EndRef → Bool
same_end a b = nat_eq a.fed b.fed && nat_eq a.index b.index
