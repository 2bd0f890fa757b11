-- Pieces and lines of a plan's text.
use Rattle.std.proofs.Common.{◌≡◌, ◌∙◌, ℕ, suc, ◌+◌, ◌-◌, ◌<◌, List, [], ◌∷◌, ◌++◌, ap, sym, append_assoc, arith}
use Rattle.std.specs.Prelude.{codes}
use Rattle.std.specs.List.{flat_map, range_with_len}
use Rattle.log_text.specs.Text.{line}

-- a federate's line in two pieces
pub two_pieces : (out first second number name core ancestors : List ℕ) → first ≡ out ++ codes "federate " ++ number ++ 32 ∷ name →
    second ≡ first ++ line (codes " core " ++ core ++ codes " ancestors " ++ ancestors) →
    second ≡ out ++ line (codes "federate " ++ number ++ 32 ∷ name ++ codes " core " ++ core ++ codes " ancestors " ++ ancestors)
two_pieces out first second number name core ancestors is_first is_second =
    is_second ∙ ap (λ (l : List ℕ). l ++ line (codes " core " ++ core ++ codes " ancestors " ++ ancestors)) is_first ∙ simp append_assoc

-- one line more
pub one_more : (text : ℕ → List ℕ) (n k : ℕ) (out next all : List ℕ) → k < n → out ++ flat_map text (range_with_len k (n - k)) ≡ all → next ≡ out ++ text k →
    next ++ flat_map text (range_with_len (k + 1) (n - (k + 1))) ≡ all
one_more text n k out next all less so_far more =
    let rest : List ℕ = flat_map text (range_with_len (k + 1) (n - (k + 1))) in
    let one : n - k ≡ suc (n - (k + 1)) = omega (arith, less) in
    ap (λ (l : List ℕ). l ++ rest) more ∙ append_assoc out (text k) rest ∙ sym (ap (λ m. out ++ flat_map text (range_with_len k m)) one) ∙ so_far

-- what is put behind nothing stands alone
pub behind_nothing : (out text next : List ℕ) → out ≡ [] → next ≡ out ++ text → next ≡ text
behind_nothing out text next empty is = is ∙ ap (λ (l : List ℕ). l ++ text) empty
