-- Members of lists.
use Rattle.std.proofs.Common.{◌≡◌, ◌⊎◌, inl, inr, ℕ, zero, suc, ◌+◌, ◌<◌, Bool, true, false, arith, refl, sym, ◌∙◌, ap, subst, List, [], ◌∷◌, ◌++◌, length, get_or, length-append}
use Rattle.std.specs.Prelude.{map}
use Rattle.std.specs.List.{filter}
use Rattle.std.specs.List.Sorted.{IsStrictlyIncreasing}
use Rattle.std.proofs.lemmas.Bool.{cases_Bool, cases_eq}
use Rattle.std.proofs.lemmas.List.{get_or_append_left}
use Rattle.std.proofs.Math.Seq.{get_or-append_seam}
use Rattle.hel_lists.specs.Members.{IsIn, Each}

-- the item at a place is a member
pub at_in : {A : Type 0} (xs : List A) (k : ℕ) (d : A) → k < length xs → IsIn (get_or xs k d) xs
at_in [] k d below = absurd (omega arith)
at_in (x ∷ xs) zero d below = inl refl
at_in (x ∷ xs) (suc k) d below = inr (at_in xs k d (omega arith))

-- a member of a list with one more item is one of the list, or that item
pub in_pushed : {A : Type 0} (xs : List A) (y x : A) → IsIn x (xs ++ y ∷ []) → IsIn x xs ⊎ (x ≡ y)
in_pushed [] y x among = elim among [ inl here ↦ inr here | inr none ↦ absurd none ]
in_pushed (z ∷ zs) y x among = elim among [
  | inl here ↦ inl (inl here)
  | inr later ↦ elim (in_pushed zs y x later) [ inl within ↦ inl (inr within) | inr last ↦ inr last ]
]

pub pushed_in : {A : Type 0} (xs : List A) (y x : A) → IsIn x xs ⊎ (x ≡ y) → IsIn x (xs ++ y ∷ [])
pushed_in [] y x among = elim among [ inl none ↦ absurd none | inr last ↦ inl last ]
pushed_in (z ∷ zs) y x among = elim among [
  | inl within ↦ elim within [ inl here ↦ inl here | inr later ↦ inr (pushed_in zs y x (inl later)) ]
  | inr last ↦ inr (pushed_in zs y x (inr last))
]

-- what holds of each member and of one more item holds of each member of both
pub each_pushed : {A : Type 0} (P : A → Type 0) (xs : List A) (y : A) → Each P xs → P y → Each P (xs ++ y ∷ [])
each_pushed P xs y each last x among = elim (in_pushed xs y x among) [ inl within ↦ each x within | inr same ↦ subst P (sym same) last ]

-- a list that ascends goes on ascending with a greater number
pub rises_pushed : (xs : List ℕ) (y : ℕ) → IsStrictlyIncreasing xs → Each (λ x. x < y) xs → IsStrictlyIncreasing (xs ++ y ∷ [])
rises_pushed xs y up above k below =
    let long : length (xs ++ y ∷ []) ≡ length xs + 1 = length-append xs (y ∷ []) in
    let here : k < length xs = omega arith in
    let left : get_or (xs ++ y ∷ []) k 0 ≡ get_or xs k 0 = get_or_append_left xs (y ∷ []) 0 k here in
    elim (cases_eq (k + 1) (length xs)) [
      | inl last ↦
          let right : get_or (xs ++ y ∷ []) (k + 1) 0 ≡ y = ap (λ (j : ℕ). get_or (xs ++ y ∷ []) j 0) last ∙ get_or-append_seam xs y [] 0 in
          let less : get_or xs k 0 < y = above (get_or xs k 0) (at_in xs k 0 here) in
          omega arith
      | inr more ↦
          let right : get_or (xs ++ y ∷ []) (k + 1) 0 ≡ get_or xs (k + 1) 0 = get_or_append_left xs (y ∷ []) 0 (k + 1) (omega arith) in
          let less : get_or xs k 0 < get_or xs (k + 1) 0 = up k (omega arith) in
          omega arith
    ]

-- a member of a mapped list is the image of a member
pub in_map : {A B : Type 0} (f : A → B) (xs : List A) (y : B) → IsIn y (map f xs) → (x : A) × IsIn x xs × (y ≡ f x)
in_map f [] y among = absurd among
in_map f (x ∷ xs) y among = elim among [
  | inl here ↦ (x, inl refl, here)
  | inr later ↦ let m = in_map f xs y later in (m.0, inr m.1, m.2)
]

-- the image of a member is one of the mapped list
pub map_in : {A B : Type 0} (f : A → B) (xs : List A) (x : A) → IsIn x xs → IsIn (f x) (map f xs)
map_in f [] x among = absurd among
map_in f (y ∷ ys) x among = elim among [ inl here ↦ inl (ap f here) | inr later ↦ inr (map_in f ys x later) ]

-- what a filter keeps is a member that passes
pub in_filter : {A : Type 0} (p : A → Bool) (xs : List A) (x : A) → IsIn x (filter p xs) → IsIn x xs × (p x ≡ true)
in_filter p [] x among = absurd among
in_filter p (y ∷ ys) x among = elim (cases_Bool (p y)) [
  | inl holds ↦
      let cut = rw holds at among in
      elim cut [ inl here ↦ (inl here, ap p here ∙ holds) | inr later ↦ let m = in_filter p ys x later in (inr m.0, m.1) ]
  | inr fails ↦ let cut = rw fails at among in let m = in_filter p ys x cut in (inr m.0, m.1)
]

-- a filter keeps each member that passes
pub filter_in : {A : Type 0} (p : A → Bool) (xs : List A) (x : A) → IsIn x xs → p x ≡ true → IsIn x (filter p xs)
filter_in p [] x among passes = absurd among
filter_in p (y ∷ ys) x among passes = elim among [
  | inl here ↦ let holds : p y ≡ true = sym (ap p here) ∙ passes in rw holds (inl here)
  | inr later ↦
      let more = filter_in p ys x later passes in
      elim (cases_Bool (p y)) [ inl holds ↦ rw holds (inr more) | inr fails ↦ rw fails more ]
]

-- a filter keeps a first item that passes
pub filter_holds : {A : Type 0} (q : A → Bool) (x : A) (xs : List A) → q x ≡ true → filter q (x ∷ xs) ≡ x ∷ filter q xs
filter_holds q x xs holds = rw holds refl

-- a filter leaves a first item that fails out
pub filter_fails : {A : Type 0} (q : A → Bool) (x : A) (xs : List A) → q x ≡ false → filter q (x ∷ xs) ≡ filter q xs
filter_fails q x xs fails = rw fails refl

-- after a wider filter a narrower one keeps what it would have kept
pub filter_within : {A : Type 0} (q r : A → Bool) (xs : List A) → ((x : A) → q x ≡ true → r x ≡ true) → filter q (filter r xs) ≡ filter q xs
filter_within q r [] within = refl
filter_within {A = A} q r (x ∷ xs) within =
    let more = filter_within q r xs within in
    elim (cases_Bool (q x)) [
      | inl q_holds ↦ ap (filter q) (filter_holds r x xs (within x q_holds)) ∙ filter_holds q x (filter r xs) q_holds ∙ ap (λ (l : List A). x ∷ l) more ∙ sym (filter_holds q x xs q_holds)
      | inr q_fails ↦ elim (cases_Bool (r x)) [
        | inl r_holds ↦ ap (filter q) (filter_holds r x xs r_holds) ∙ filter_fails q x (filter r xs) q_fails ∙ more ∙ sym (filter_fails q x xs q_fails)
        | inr r_fails ↦ ap (filter q) (filter_fails r x xs r_fails) ∙ more ∙ sym (filter_fails q x xs q_fails)
      ]
    ]

-- two filters keep the same in either order
pub filter_commutes : {A : Type 0} (q r : A → Bool) (xs : List A) → filter q (filter r xs) ≡ filter r (filter q xs)
filter_commutes q r [] = refl
filter_commutes {A = A} q r (x ∷ xs) =
    let more = filter_commutes q r xs in
    elim (cases_Bool (q x)) [
      | inl q_holds ↦ elim (cases_Bool (r x)) [
        | inl r_holds ↦ ap (filter q) (filter_holds r x xs r_holds) ∙ filter_holds q x (filter r xs) q_holds ∙ ap (λ (l : List A). x ∷ l) more
            ∙ sym (filter_holds r x (filter q xs) r_holds) ∙ ap (filter r) (sym (filter_holds q x xs q_holds))
        | inr r_fails ↦ ap (filter q) (filter_fails r x xs r_fails) ∙ more ∙ sym (filter_fails r x (filter q xs) r_fails) ∙ ap (filter r) (sym (filter_holds q x xs q_holds))
      ]
      | inr q_fails ↦ elim (cases_Bool (r x)) [
        | inl r_holds ↦ ap (filter q) (filter_holds r x xs r_holds) ∙ filter_fails q x (filter r xs) q_fails ∙ more ∙ ap (filter r) (sym (filter_fails q x xs q_fails))
        | inr r_fails ↦ ap (filter q) (filter_fails r x xs r_fails) ∙ more ∙ ap (filter r) (sym (filter_fails q x xs q_fails))
      ]
    ]
