-- An object's members by key. A key is compared without its underscores and with its ASCII letters lowered.
use Rattle.std.specs.Prelude.{ℕ, ◌==◌, Bool, not, List, [], ◌∷◌, map, filter, find, count_by, nat_lt, if◌then◌else◌, Option, None, option_map, String, string_bytes}
use Rattle.std.specs.declared.alloc.Global.{Global}
use Rattle.std.specs.Char.{to_ascii_lowercase}
use Rattle.std.specs.Borrow.{Bor}
use Rattle.std.specs.Str.{bytes_eq, is_utf8}
use Rattle.std.specs.List.{list_any}
use Rattle.serde_json.specs.Data.{Data, Members, no_members, member}
use Rattle.serde_json.specs.Find.{as_object}
use Rattle.serde_json.specs.Read.{read}
use Rattle.serde_json.specs.View.{view}
use Rattle.serde_json.specs.declared.value.Value.{Value}

-- the JSON value that a file's bytes are
unfoldable pub json_of : List ℕ → Option Data
json_of bytes = if is_utf8 bytes then read bytes else None

-- a member: its key as the file spells it, and its value
abbrev pub Member : Type 0
Member = List ℕ × Data

-- a key as it is compared
abbrev pub plain_key : List ℕ → List ℕ
plain_key spelled = map to_ascii_lowercase (filter (λ c. not (c == 95)) spelled)

-- what is spelled so stands for the key of a table
abbrev pub same_key_of : List ℕ → List ℕ → Bool
same_key_of key spelled = bytes_eq (plain_key spelled) key

abbrev pub members_in : Members → List Member
members_in no_members = []
members_in (member key value more) = (key, value) ∷ members_in more

-- the members of an object
abbrev pub object_of : Data → Option (List Member)
object_of value = option_map members_in (as_object value)

-- the first member that stands for a key
abbrev pub member_at : List ℕ → List Member → Option Member
member_at key members = find (λ m. same_key_of key m.0) members

-- two members stand for one key of a table
abbrev pub is_doubled : List (List ℕ) → List Member → Bool
is_doubled table members = list_any (λ key. nat_lt 1 (count_by (λ m. same_key_of key m.0) members)) table

-- the members that a map holds
abbrev pub pairs_of : List (String Global × Value) → List Member
pairs_of = map (λ m. (string_bytes m.0, view m.1))

abbrev pub texts_of : List (Bor (List ℕ)) → List (List ℕ)
texts_of = map (λ t. t.now)
