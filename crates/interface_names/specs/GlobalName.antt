-- Names in the federation, and lists of them in which each may stand once.
use Rattle.std.specs.Prelude.{ℕ, Bool, ◌&&◌, nat_eq, List, [], ◌∷◌, ◌++◌, Option, None, Some, if◌then◌else◌}
use Rattle.std.specs.List.{list_any}
use Rattle.std.specs.Str.{bytes_eq}
use Rattle.interface_names.specs.declared.names.InterfaceKind.{InterfaceKind}
use Rattle.interface_names.specs.declared.names.InterfaceKind.TheVariants.{Publication, Input, Endpoint, Filter}
use Rattle.interface_names.specs.declared.names.GlobalName.{GlobalName}

-- the number of a kind
abbrev pub number_of : InterfaceKind → ℕ
number_of Publication = 0
number_of Input = 1
number_of Endpoint = 2
number_of Filter = 3

-- one kind and one name
abbrev pub is_same : GlobalName → GlobalName → Bool
is_same a b = nat_eq (number_of a.kind) (number_of b.kind) && bytes_eq a.name b.name

-- the name stands in the list, for its kind
abbrev pub stands_in : List GlobalName → GlobalName → Bool
stands_in names name = list_any (is_same name) names

-- the first of the names that stands among those before it, the earlier ones and its own
abbrev pub first_duplicate : List GlobalName → List GlobalName → Option GlobalName
first_duplicate earlier [] = None
first_duplicate earlier (name ∷ names) =
    if stands_in earlier name then Some name else first_duplicate (earlier ++ name ∷ []) names
