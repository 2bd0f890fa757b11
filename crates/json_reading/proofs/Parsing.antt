-- The JSON value of bytes that are UTF-8, or that have none.
use Rattle.std.proofs.Common.{◌≡◌, ℕ, Bool, true, false, cond, List, None, Some, refl}
use Rattle.std.specs.Str.{IsUtf8, is_utf8}
use Rattle.std.proofs.lemmas.Str.{IsUtf8-from_is_utf8, is_utf8-from_IsUtf8}
use Rattle.serde_json.specs.Data.{Data}
use Rattle.serde_json.specs.Read.{read}
use Rattle.json_reading.specs.Keys.{json_of}

-- what is UTF-8 and has a value has that value
pub json_read : (bytes : List ℕ) (d : Data) → IsUtf8 bytes → read bytes ≡ Some d → Some d ≡ json_of bytes
unfolding json_of
json_read bytes d text e = rw (is_utf8-from_IsUtf8 bytes text) (rw e refl)

-- what has no value where it is UTF-8 has none
pub json_none : (bytes : List ℕ) → (IsUtf8 bytes → read bytes ≡ None) → None ≡ json_of bytes
unfolding json_of
json_none bytes none = by_test (is_utf8 bytes) (λ e. none (IsUtf8-from_is_utf8 bytes e))
  where
    by_test : (b : Bool) → (b ≡ true → read bytes ≡ None) → None ≡ cond b (read bytes) None
    by_test true h = rw (h refl) refl
    by_test false h = refl
