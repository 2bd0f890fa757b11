-- Lists and their members.
use Rattle.std.proofs.Common.{◌≡◌, ◌⊎◌, inl, inr, ℕ, ◌+◌, ◌<◌, ◌≤◌, List, [], ◌∷◌, ◌++◌, length, get_or, take, take_all, arith, refl, sym, ◌∙◌, ap, subst, Bool, true, false}
use Rattle.std.specs.List.{list_any}
use Rattle.std.proofs.lemmas.Bool.{or_left, or_right, or_cases, true≢false, cases_lt}
use Rattle.std.proofs.lemmas.List.{take_more, get_or_default, get_or_past}
use Rattle.hel_lists.specs.Members.{IsIn, Each}

-- a member of two lists, one after the other
pub in_append : {A : Type 0} (xs ys : List A) (x : A) → IsIn x (xs ++ ys) → IsIn x xs ⊎ IsIn x ys
in_append [] ys x among = inr among
in_append (z ∷ zs) ys x among = elim among [
  | inl here ↦ inl (inl here)
  | inr later ↦ elim (in_append zs ys x later) [ inl first ↦ inl (inr first) | inr second ↦ inr second ]
]

pub append_left : {A : Type 0} (xs ys : List A) (x : A) → IsIn x xs → IsIn x (xs ++ ys)
append_left [] ys x among = absurd among
append_left (z ∷ zs) ys x among = elim among [ inl here ↦ inl here | inr later ↦ inr (append_left zs ys x later) ]

pub append_right : {A : Type 0} (xs ys : List A) (x : A) → IsIn x ys → IsIn x (xs ++ ys)
append_right [] ys x among = among
append_right (z ∷ zs) ys x among = inr (append_right zs ys x among)

-- what holds of each of the first items, and of the next one
pub each_more : {A : Type 0} (P : A → Type 0) (xs : List A) (i : ℕ) (d : A) → i < length xs → Each P (take i xs) → P (get_or xs i d) → Each P (take (i + 1) xs)
each_more P xs i d below first next x among = elim (in_append (take i xs) (get_or xs i d ∷ []) x (subst (IsIn x) (take_more xs i d below) among)) [
  | inl before ↦ first x before
  | inr last ↦ elim last [ inl here ↦ subst P (sym here) next | inr none ↦ absurd none ]
]

-- within a list the item for past ends doesn't matter
pub own_default : {A : Type 0} (xs : List A) (k : ℕ) (d : A) → k < length xs → get_or xs k d ≡ get_or xs k (get_or xs k d)
own_default xs k d below = get_or_default xs k d (get_or xs k d) below

-- a test that some member passes
pub any_to : {A : Type 0} (p : A → Bool) (xs : List A) (x : A) → IsIn x xs → p x ≡ true → list_any p xs ≡ true
any_to p [] x among holds = absurd among
any_to p (y ∷ ys) x among holds = elim among [
  | inl here ↦ or_left (p y) (list_any p ys) (sym (ap p here) ∙ holds)
  | inr later ↦ or_right (p y) (list_any p ys) (any_to p ys x later holds)
]

pub any_from : {A : Type 0} (p : A → Bool) (xs : List A) → list_any p xs ≡ true → (x : A) × IsIn x xs × (p x ≡ true)
any_from p [] holds = absurd (true≢false (sym holds))
any_from p (y ∷ ys) holds = elim (or_cases (p y) (list_any p ys) holds) [
  | inl here ↦ (y, inl refl, here)
  | inr later ↦ let m = any_from p ys later in (m.0, inr m.1, m.2)
]

-- tests that hold together are the same
pub same_test : (x y : Bool) → (x ≡ true → y ≡ true) → (y ≡ true → x ≡ true) → x ≡ y
same_test true y to from = sym (to refl)
same_test false true to from = from refl
same_test false false to from = refl

-- the same of an item that was read
pub each_next : {A : Type 0} (P : A → Type 0) (xs : List A) (i : ℕ) (x : A) → i < length xs → x ≡ get_or xs i x → Each P (take i xs) → P x → Each P (take (i + 1) xs)
each_next P xs i x below at first next = each_more P xs i x below first (subst P at next)

-- all items were read
pub each_all : {A : Type 0} (P : A → Type 0) (xs : List A) (i : ℕ) → length xs ≤ i → Each P (take i xs) → Each P xs
each_all P xs i past each = subst (Each P) (take_all i xs past) each

-- the first items, of which one more was put behind
pub taken_more : {A : Type 0} (xs now next : List A) (i : ℕ) (x y : A) → i < length xs → now ≡ take i xs → next ≡ now ++ y ∷ [] → y ≡ x → ((d : A) → get_or xs i d ≡ x) → next ≡ take (i + 1) xs
taken_more {A} xs now next i x y below was put same at =
    put ∙ ap (λ (l : List A). l ++ y ∷ []) was ∙ ap (λ (z : A). take i xs ++ z ∷ []) (same ∙ sym (at x)) ∙ sym (take_more xs i x below)

-- a row that has a place is one of the table
pub row_within : {A : Type 0} (table : List (List A)) (f n : ℕ) → n < length (get_or table f []) → f < length table
row_within {A} table f n here = elim (cases_lt f (length table)) [
  | inl below ↦ below
  | inr past ↦
      let none : length (get_or table f []) ≡ 0 = ap (λ (l : List A). length l) (get_or_past table f [] past) in
      absurd (omega arith)
]
