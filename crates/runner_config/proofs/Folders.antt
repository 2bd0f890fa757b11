-- The folder of a path, by the place of its last slash.
use Rattle.std.proofs.Common.{◌≡◌, ◌≢◌, ℕ, ◌+◌, ◌-◌, ◌<◌, ◌==◌, true, false, not, List, [], ◌∷◌, length, get_or, take, refl, ap, ◌∙◌, arith, eq-eqb, inl, inr}
use Rattle.std.specs.List.{list_any, suffix_len}
use Rattle.std.proofs.lemmas.Bool.Decides.{eqb_tells}
use Rattle.std.proofs.lemmas.List.Folds.{list_any_at, list_any_none}
use Rattle.std.proofs.lemmas.List.Elements.{All-from_get_or}
use Rattle.std.proofs.lemmas.List.Sums.{suffix_len_is}
use Rattle.runner_config.specs.Paths.{folder_of}

no_slash : (c : ℕ) → c ≢ 47 → (c == 47) ≡ false
no_slash c ne = elim (eqb_tells c 47) [ inl same ↦ absurd (ne same.1) | inr differs ↦ differs.0 ]

-- what stands before the last slash
pub folder_before : (bs : List ℕ) (k : ℕ) → k < length bs → get_or bs k 0 ≡ 47 → ((i : ℕ) → k < i → i < length bs → get_or bs i 0 ≢ 47) → take k bs ≡ folder_of bs
folder_before bs k within slash after =
    let there : list_any (λ c. c == 47) bs ≡ true = list_any_at (λ c. c == 47) bs k 0 within (eq-eqb _ 47 slash) in
    let back : k + 1 - 1 ≡ k = omega arith in
    let rest : suffix_len (λ c. not (c == 47)) bs ≡ length bs - (k + 1) =
    suffix_len_is (λ c. not (c == 47)) bs (k + 1) 0 (omega arith)
    (λ i past inside. ap not (no_slash (get_or bs i 0) (after i (omega arith) inside)))
    (λ _. ap not (eq-eqb _ 47 (ap (λ n. get_or bs n 0) back ∙ slash))) in
    rw there (ap (λ n. take n bs) (omega (arith, rest)))

-- a path without a slash
pub folder_none : (bs : List ℕ) → ((i : ℕ) → i < length bs → get_or bs i 0 ≢ 47) → 46 ∷ [] ≡ folder_of bs
folder_none bs none =
    let lacks : list_any (λ c. c == 47) bs ≡ false =
    list_any_none (λ c. c == 47) bs (All-from_get_or (λ c. (c == 47) ≡ false) bs 0 (λ i within. no_slash (get_or bs i 0) (none i within))) in
    rw lacks refl
