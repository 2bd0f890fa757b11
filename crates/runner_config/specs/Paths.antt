-- Paths: the folder of a file, and joining.
use Rattle.std.specs.Prelude.{ℕ, nat_eq, ◌==◌, ◌||◌, if◌then◌else◌, List, ◌∷◌, ◌++◌, codes}
use Rattle.std.specs.Str.{bytes_eq}
use Rattle.std.specs.List.{list_any, starts_with, before_last}

-- what stands before the last slash, or `.`
abbrev pub folder_of : List ℕ → List ℕ
folder_of file = if list_any (λ c. c == 47) file then before_last (λ c. c == 47) file else codes "."

abbrev pub joined : List ℕ → List ℕ → List ℕ
joined a b =
    if starts_with nat_eq b (codes "/") || bytes_eq a (codes ".") then b
    else (if bytes_eq b (codes ".") then a else a ++ 47 ∷ b)
