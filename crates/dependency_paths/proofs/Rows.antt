-- Ascending lists and their members.
use Rattle.std.proofs.Common.{◌≡◌, inl, inr, ℕ, suc, ◌+◌, ◌<◌, List, [], ◌∷◌, length, get_or, arith, refl, sym, ◌∙◌, ap, subst}
use Rattle.std.specs.List.Sorted.{IsStrictlyIncreasing}
use Rattle.hel_lists.specs.Members.{IsIn}

-- what comes behind the first ascends
pub rises_behind : (x : ℕ) (xs : List ℕ) → IsStrictlyIncreasing (x ∷ xs) → IsStrictlyIncreasing xs
rises_behind x xs up k below =
    let next : suc k + 1 ≡ suc (k + 1) = omega arith in
    subst (λ (j : ℕ). get_or xs k 0 < get_or (x ∷ xs) j 0) next (up (suc k) (omega arith))

-- the first is below the others
pub first_least : (x : ℕ) (xs : List ℕ) (y : ℕ) → IsStrictlyIncreasing (x ∷ xs) → IsIn y xs → x < y
first_least x [] y up among = absurd among
first_least x (z ∷ zs) y up among =
    let step : x < get_or (x ∷ z ∷ zs) (0 + 1) 0 = up 0 (omega arith) in
    let less : x < z = step in
    elim among [
      | inl here ↦ omega arith
      | inr later ↦ let more : z < y = first_least z zs y (rises_behind x (z ∷ zs) up) later in omega arith
    ]

-- ascending lists with the same members are the same
pub one_list : (xs ys : List ℕ) → IsStrictlyIncreasing xs → IsStrictlyIncreasing ys → ((a : ℕ) → IsIn a xs → IsIn a ys) → ((a : ℕ) → IsIn a ys → IsIn a xs) → xs ≡ ys
one_list [] [] up up' to from = refl
one_list [] (y ∷ ys) up up' to from = absurd (from y (inl refl))
one_list (x ∷ xs) [] up up' to from = absurd (to x (inl refl))
one_list (x ∷ xs) (y ∷ ys) up up' to from =
    let same : x ≡ y = elim (to x (inl refl)) [
      | inl is ↦ is
      | inr later ↦ elim (from y (inl refl)) [
        | inl is ↦ sym is
        | inr other ↦
            let less : y < x = first_least y ys x up' later in
            let more : x < y = first_least x xs y up other in
            absurd (omega arith)
      ]
    ] in
    let there : (a : ℕ) → IsIn a xs → IsIn a ys = λ a among. elim (to a (inr among)) [
      | inl is ↦ let less : x < a = first_least x xs a up among in absurd (omega arith)
      | inr later ↦ later
    ] in
    let back : (a : ℕ) → IsIn a ys → IsIn a xs = λ a among. elim (from a (inr among)) [
      | inl is ↦ let less : y < a = first_least y ys a up' among in absurd (omega arith)
      | inr later ↦ later
    ] in
    ap (λ (k : ℕ). k ∷ xs) same ∙ ap (λ (l : List ℕ). y ∷ l) (one_list xs ys (rises_behind x xs up) (rises_behind y ys up') there back)

-- lists of one length with the same item at each place are the same
pub same_items : {A : Type 0} (d : A) (xs ys : List A) → length xs ≡ length ys → ((k : ℕ) → get_or xs k d ≡ get_or ys k d) → xs ≡ ys
same_items d [] [] long each = refl
same_items d [] (y ∷ ys) long each = absurd (omega arith)
same_items d (x ∷ xs) [] long each = absurd (omega arith)
same_items {A} d (x ∷ xs) (y ∷ ys) long each =
    ap (λ (z : A). z ∷ xs) (each 0) ∙ ap (λ (l : List A). y ∷ l) (same_items d xs ys (omega arith) (λ k. each (suc k)))
