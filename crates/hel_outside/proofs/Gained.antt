-- What a sink has gained.
use Rattle.std.proofs.Common.{◌≡◌, ◌<◌, ◌+◌, ℕ, List, [], ◌++◌, Option, Some, None, sym, ap, ◌∙◌, subst, append_assoc, refl, take, drop, length, take-append-drop, arith, length-append}
use Rattle.std.proofs.Math.Seq.{take-append_seam}
use Rattle.std.proofs.lemmas.List.{append-nil}
use Rattle.hel_outside.specs.Faults.{Gains, GainsPart}

-- to stay as it was is to gain nothing
pub gains_nothing : (o : Option (List ℕ)) → Gains o o []
gains_nothing None = refl
gains_nothing (Some told) = ap Some (sym (append-nil told))

-- to gain a text and then another is to gain both in turn
pub gains_more : (a b c : Option (List ℕ)) (x y : List ℕ) → Gains a b x → Gains b c y → Gains a c (x ++ y)
gains_more None b c x y first next = let P : Option (List ℕ) → Type 0 = λ o. Gains o c y in subst P first next
gains_more (Some told) b c x y first next =
    let P : Option (List ℕ) → Type 0 = λ o. Gains o c y in
    subst P first next ∙ ap Some (append_assoc told x y)

-- a first part was gained, and this rest of the bytes follows it
abbrev pub GainsUpTo : Option (List ℕ) → Option (List ℕ) → List ℕ → List ℕ → Type 0
GainsUpTo before after rest bytes = (first : List ℕ) × ((bytes ≡ first ++ rest) × Gains before after first)

-- where a rest is left, what was gained is a part
pub gains_part : (a b : Option (List ℕ)) (rest bytes : List ℕ) → GainsUpTo a b rest bytes → 0 < length rest → GainsPart a b bytes
gains_part a b rest bytes (first, (split, gained)) left =
    let longer : length bytes ≡ length first + length rest = ap length split ∙ length-append first rest in
    let P : List ℕ → Type 0 = λ l. Gains a b l in
    let seam : first ≡ take (length first) bytes = sym (ap (λ l. take (length first) l) split ∙ take-append_seam first rest) in
    (length first, (omega arith, subst P seam gained))

-- to take more of the rest shortens it by what was taken
pub gains_taken : (a b c : Option (List ℕ)) (n : ℕ) (rest bytes : List ℕ) → GainsUpTo a b rest bytes → Gains b c (take n rest) → GainsUpTo a c (drop n rest) bytes
gains_taken a b c n rest bytes (first, (split, gained)) next =
    let parts : bytes ≡ first ++ (take n rest ++ drop n rest) = split ∙ ap (λ l. first ++ l) (sym (take-append-drop n rest)) in
    (first ++ take n rest, (parts ∙ sym (append_assoc first (take n rest) (drop n rest)), gains_more a b c first (take n rest) gained next))
