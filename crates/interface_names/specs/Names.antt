-- What interfaces are called.
use Rattle.std.specs.Prelude.{ℕ, Bool, ◌||◌, ◌==◌, nat_lt, List, ◌∷◌, ◌++◌, length, if◌then◌else◌}
use Rattle.std.specs.List.{list_any}
use Rattle.interface_names.specs.Limits.{longest_name}

-- a local interface `k` of `F` is `F/k` in the federation, a global one `k`
abbrev pub global_name_of : List ℕ → List ℕ → Bool → List ℕ
global_name_of federate name global = if global then name else federate ++ 47 ∷ name

-- no name may hold this byte: a control character
abbrev pub is_control : ℕ → Bool
is_control byte = nat_lt byte 0x20 || (byte == 0x7f)

-- nothing may have this name
abbrev pub is_bad_name : List ℕ → Bool
is_bad_name name = (length name == 0) || nat_lt longest_name (length name) || list_any is_control name
