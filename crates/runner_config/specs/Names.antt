-- Names, each of which stands once.
use Rattle.std.specs.Prelude.{ℕ, ◌&&◌, Bool, true, not, if◌then◌else◌, List, [], ◌∷◌, ◌++◌, Option, position}
use Rattle.std.specs.List.{list_any}
use Rattle.std.specs.Str.{bytes_eq}

-- the name stands among these
abbrev pub stands : List (List ℕ) → List ℕ → Bool
stands names name = list_any (bytes_eq name) names

-- the place of a name among these
abbrev pub place_of : List (List ℕ) → List ℕ → Option ℕ
place_of names name = position (bytes_eq name) names

-- these and one more, which goes last unless it stands among them
abbrev pub with_name : List (List ℕ) → List ℕ → List (List ℕ)
with_name names name = if stands names name then names else names ++ name ∷ []

-- none of these stands among the earlier ones or those before it
abbrev pub are_new : List (List ℕ) → List (List ℕ) → Bool
are_new earlier [] = true
are_new earlier (name ∷ names) = not (stands earlier name) && are_new (earlier ++ name ∷ []) names

-- each stands once
abbrev pub are_different : List (List ℕ) → Bool
are_different names = are_new [] names
