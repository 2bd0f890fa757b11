-- Where the first word that passes a test stands in rounds of parts.
use Rattle.std.proofs.Common.{ℕ, zero, suc, ◌+◌, ◌-◌, ◌<◌, ◌≡◌, refl, ap, ◌∙◌, Bool, List, ◌++◌, length, get_or, drop, take, arith, Some, None}
use Rattle.std.specs.Prelude.{Option, find}
use Rattle.std.specs.Option.{option_or}
use Rattle.std.proofs.lemmas.List.Folds.{find-append}
use Rattle.std.proofs.lemmas.List.{append-nil, take_rest}
use Rattle.fed_script.specs.declared.word.Word.{Word}
use Rattle.fed_script.specs.declared.rounds.Part.{Part}
use Rattle.std.specs.List.{repeat}
use Rattle.fed_script.specs.Rounds.{rest_of, unrolled, rest_from}
use Rattle.fed_script.proofs.Parts.{rest_from_at}

or_same : {A : Type 0} (o : Option A) → option_or o o ≡ o
or_same None = refl
or_same (Some x) = refl

-- a list that comes often has what it has once
pub find_copies : {A : Type 0} (p : A → Bool) (n : ℕ) (xs : List A) → find p (repeat (suc n) xs) ≡ find p xs
find_copies p zero xs = ap (find p) (append-nil xs)
find_copies p (suc n) xs = find-append p xs (repeat (suc n) xs) ∙ ap (λ o. option_or (find p xs) o) (find_copies p n xs) ∙ or_same (find p xs)

-- what is left: of the part at the place, behind it, and in later rounds
pub find_rest : (p : Word → Bool) (n left : ℕ) (parts : List Part) (part : Part) → n < length parts → part ≡ get_or parts n part
    → find p (rest_from n parts ++ repeat left (unrolled parts)) ≡ option_or (option_or (find p (rest_of part)) (find p (unrolled (drop (suc n) parts)))) (find p (repeat left (unrolled parts)))
find_rest p n left parts part within at =
    let behind = unrolled (drop (suc n) parts) in
    let later = repeat left (unrolled parts) in
    ap (λ ws. find p (ws ++ later)) (rest_from_at n parts part within at)
    ∙ find-append p (rest_of part ++ behind) later
    ∙ ap (λ o. option_or o (find p later)) (find-append p (rest_of part) behind)

-- the parts behind a place, as a slice has them
pub behind_place : (n : ℕ) (parts slice : List Part) → slice ≡ parts → take (length slice - (n + 1)) (drop (n + 1) slice) ≡ drop (suc n) parts
behind_place n parts slice is =
    take_rest slice (n + 1) ∙ ap (λ ps. drop (n + 1) ps) is ∙ (let e : n + 1 ≡ suc n = omega arith in ap (λ k. drop k parts) e)
