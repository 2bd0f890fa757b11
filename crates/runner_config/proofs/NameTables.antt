-- A table of names as the list of its names.
use Rattle.std.proofs.Common.{◌≡◌, ℕ, ◌+◌, Bool, true, false, cond, ◌||◌, not, List, [], ◌∷◌, ◌++◌, map, ap, refl, String, string_bytes}
use Rattle.std.specs.Prelude.{position}
use Rattle.std.proofs.lemmas.List.{length-map}
use Rattle.std.specs.List.{list_any, position_or_len}
use Rattle.std.specs.Str.{bytes_eq}
use Rattle.std.specs.String.{string_eq}
use Rattle.std.specs.declared.alloc.Global.{Global}
use Rattle.indexmap.specs.IndexSet.{insert_key}
use Rattle.runner_config.specs.Names.{stands, place_of, with_name}

abbrev pub Keys : Type 0
Keys = List (String Global)

-- a key stands where its name does
pub stands_by_key : (key : String Global) (keys : Keys) → list_any (string_eq key) keys ≡ stands (map string_bytes keys) (string_bytes key)
stands_by_key key [] = refl
stands_by_key key (k ∷ keys) = ap (λ (b : Bool). bytes_eq (string_bytes key) (string_bytes k) || b) (stands_by_key key keys)

front_by_key : (name : List ℕ) (keys : Keys) → position_or_len (λ k. bytes_eq name (string_bytes k)) keys ≡ position_or_len (bytes_eq name) (map string_bytes keys)
front_by_key name [] = refl
front_by_key name (k ∷ keys) = ap (λ (n : ℕ). cond (not (bytes_eq name (string_bytes k))) (1 + n) 0) (front_by_key name keys)

-- the place of a key is that of its name
pub place_by_key : (name : List ℕ) (keys : Keys) → position (λ k. bytes_eq name (string_bytes k)) keys ≡ place_of (map string_bytes keys) name
place_by_key name keys = rw (front_by_key name keys, length-map) refl

map_append : (keys : Keys) (key : String Global) → map string_bytes (keys ++ key ∷ []) ≡ map string_bytes keys ++ string_bytes key ∷ []
map_append [] key = refl
map_append (k ∷ keys) key = ap (λ (ns : List (List ℕ)). string_bytes k ∷ ns) (map_append keys key)

-- a key that is put in is its name put in
pub insert_by_key : (keys : Keys) (key : String Global) → map string_bytes (insert_key string_eq keys key) ≡ with_name (map string_bytes keys) (string_bytes key)
insert_by_key keys key = go (list_any (string_eq key) keys) (stands_by_key key keys)
  where
    go : (b : Bool) → b ≡ stands (map string_bytes keys) (string_bytes key)
        → map string_bytes (cond b keys (keys ++ key ∷ [])) ≡ cond (stands (map string_bytes keys) (string_bytes key)) (map string_bytes keys) (map string_bytes keys ++ string_bytes key ∷ [])
    go true e = rw (← e) refl
    go false e = rw (← e) (map_append keys key)
