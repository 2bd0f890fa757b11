-- Lemmas on members.
use Rattle.std.proofs.Common.{◌≡◌, ap, refl, sym, List, [], ◌∷◌, Option, Some, None, option_map, String, string_bytes}
use Rattle.std.specs.declared.alloc.Global.{Global}
use Rattle.std.specs.Borrow.{Bor}
use Rattle.std.specs.BTreeMap.{BTreeMap}
use Rattle.serde_json.specs.View.{view, members_view}
use Rattle.serde_json.specs.declared.value.Value.{Value}
use Rattle.json_reading.specs.Keys.{members_in, pairs_of}

abbrev pub Object : Type 0
Object = BTreeMap (String Global) Value

pub pairs_members : (es : List (String Global × Value)) → members_in (members_view es) ≡ pairs_of es
pairs_members [] = refl
pairs_members (e ∷ es) = ap (λ ms. (string_bytes e.0, view e.1) ∷ ms) (pairs_members es)

pub object_pairs : (o : Option (Bor Object))
    → option_map (λ m. pairs_of m.now.entries) o ≡ option_map members_in (option_map (λ m. members_view m.now.entries) o)
object_pairs None = refl
object_pairs (Some m) = ap Some (sym (pairs_members m.now.entries))
