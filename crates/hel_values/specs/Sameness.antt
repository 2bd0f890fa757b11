-- The tests of equality tell exactly whether two values or references are one.
use Rattle.std.proofs.Common.{◌≡◌, ap}
use Rattle.std.specs.Bool.{Decides}
use Rattle.std.proofs.lemmas.Bool.{false≢true}
use Rattle.std.proofs.lemmas.Bool.Decides.{Decides-eqb, Decides-and, Decides-like, Decides-int_eq}
use Rattle.std.proofs.lemmas.Slice.Eq.{bytes_eq-Decides}
use Rattle.hel_values.specs.declared.EndRef.{EndRef}
use Rattle.hel_values.specs.declared.Value.{Value}
use Rattle.hel_values.specs.declared.Value.TheVariants.{Int, Text, Bytes}
use Rattle.hel_values.specs.Values.{same_value, same_end}

-- of two values
pub same_value-Decides : (v w : Value) → Decides (same_value v w) (v ≡ w)
same_value-Decides (Int n) (Int m) = let d = Decides-int_eq n m in ((λ t. ap Int (d.0 t)), (λ e. d.1 (cc)))
same_value-Decides (Text t) (Text u) = let d = bytes_eq-Decides t u in ((λ h. ap Text (d.0 h)), (λ e. d.1 (cc)))
same_value-Decides (Bytes b) (Bytes c) = let d = bytes_eq-Decides b c in ((λ h. ap Bytes (d.0 h)), (λ e. d.1 (cc)))
same_value-Decides v w = ((λ t. absurd (false≢true t)), (λ e. cc))

-- of two references to interfaces
pub same_end-Decides : (a b : EndRef) → Decides (same_end a b) (a ≡ b)
same_end-Decides a b =
    Decides-like _ (λ both. λ k. record { fed = both.0 k; index = both.1 k }) (λ e. (ap (λ (c : EndRef). c.fed) e, ap (λ (c : EndRef). c.index) e))
    (Decides-and _ _ (Decides-eqb a.fed b.fed) (Decides-eqb a.index b.index))
