-- The order of items is one of keys, insertions keep it and commute, and filters keep it.
use Rattle.std.proofs.Common.{◌≡◌, ◌⊎◌, inl, inr, ℕ, Bool, true, false, arith, refl, sym, ◌∙◌, ap, subst, List, [], ◌∷◌}
use Rattle.std.specs.Prelude.{nat_lt, ◌==◌, ◌&&◌, ◌||◌, if◌then◌else◌}
use Rattle.std.specs.List.{filter}
use Rattle.std.proofs.lemmas.Bool.{cases_Bool, true≢false, false≢true}
use Rattle.std.proofs.lemmas.Bool.Decides.{nat_tests}
use Rattle.hel_lists.specs.Members.{IsIn, Each}
use Rattle.hel_lists.proofs.Members.{in_filter, filter_holds, filter_fails}
use Rattle.due_queue.proofs.Sorted.{IsWeakOrder, in_insert_by, insert_by_first, insert_by_later, insert_by_front, filter_in_order, before_each, insert_by_in_order}
use Rattle.due_queue.specs.Item.{Parcel}
use Rattle.due_queue.specs.Order.{key, due_key, lex, is_sooner, comes_before, insert, insert_all, InOrder}

-- who stands in a list with one more is that one or stood there
pub in_insert : (i : Parcel) (xs : List Parcel) (x : Parcel) → IsIn x (insert i xs) → (x ≡ i) ⊎ IsIn x xs
in_insert i xs x among = in_insert_by comes_before i xs x among

-- and that one does
pub insert_new : (i : Parcel) (xs : List Parcel) → IsIn i (insert i xs)
insert_new i [] = inl refl
insert_new i (y ∷ ys) = elim (comes_before i y) as (λ b. IsIn i (if b then i ∷ y ∷ ys else y ∷ insert i ys)) [ true ↦ inl refl | false ↦ inr (insert_new i ys) ]

-- and who stood there does
pub insert_old : (i : Parcel) (xs : List Parcel) (x : Parcel) → IsIn x xs → IsIn x (insert i xs)
insert_old i [] x among = absurd among
insert_old i (y ∷ ys) x among = elim (comes_before i y) as (λ b. IsIn x (if b then i ∷ y ∷ ys else y ∷ insert i ys)) [
  | true ↦ inr among
  | false ↦ elim among [ inl here ↦ inl here | inr later ↦ inr (insert_old i ys x later) ]
]

-- the same with a list of them
pub in_insert_all : (is xs : List Parcel) (x : Parcel) → IsIn x (insert_all is xs) → IsIn x is ⊎ IsIn x xs
in_insert_all [] xs x among = inr among
in_insert_all (i ∷ is) xs x among = elim (in_insert_all is (insert i xs) x among) [
  | inl new ↦ inl (inr new)
  | inr old ↦ elim (in_insert i xs x old) [ inl here ↦ inl (inl here) | inr older ↦ inr older ]
]

-- who stood there stays
pub insert_all_old : (is xs : List Parcel) (x : Parcel) → IsIn x xs → IsIn x (insert_all is xs)
insert_all_old [] xs x among = among
insert_all_old (i ∷ is) xs x among = insert_all_old is (insert i xs) x (insert_old i xs x among)

-- and each of the list stands there
pub insert_all_new : (is xs : List Parcel) (x : Parcel) → IsIn x is → IsIn x (insert_all is xs)
insert_all_new [] xs x among = absurd among
insert_all_new (i ∷ is) xs x among = elim among [
  | inl here ↦ subst (λ (y : Parcel). IsIn y (insert_all is (insert i xs))) (sym here) (insert_all_old is (insert i xs) i (insert_new i xs))
  | inr later ↦ insert_all_new is (insert i xs) x later
]

-- no list comes before itself
lex_same : (xs : List ℕ) → lex xs xs ≡ false
lex_same [] = refl
lex_same (x ∷ xs) = let more = lex_same xs in grind (arith, nat_tests)

-- what comes before a list comes before all that this one comes before
lex_trans : (xs ys zs : List ℕ) → lex xs ys ≡ true → lex ys zs ≡ true → lex xs zs ≡ true
lex_trans [] [] zs a b = absurd (false≢true a)
lex_trans [] (y ∷ ys) [] a b = absurd (false≢true b)
lex_trans [] (y ∷ ys) (z ∷ zs) a b = refl
lex_trans (x ∷ xs) [] zs a b = absurd (false≢true a)
lex_trans (x ∷ xs) (y ∷ ys) [] a b = absurd (false≢true b)
lex_trans (x ∷ xs) (y ∷ ys) (z ∷ zs) a b = step x y z (lex xs ys) (lex ys zs) (lex xs zs) (lex_trans xs ys zs) a b
  where
    step : (x y z : ℕ) (p q r : Bool) → (p ≡ true → q ≡ true → r ≡ true) → (nat_lt x y || (x == y && p)) ≡ true → (nat_lt y z || (y == z && q)) ≡ true → (nat_lt x z || (x == z && r)) ≡ true
    step x y z p q r more a b = grind (arith, nat_tests)

-- of two lists one comes before the other, or they are one
lex_total : (xs ys : List ℕ) → lex xs ys ≡ false → lex ys xs ≡ false → xs ≡ ys
lex_total [] [] a b = refl
lex_total [] (y ∷ ys) a b = absurd (true≢false a)
lex_total (x ∷ xs) [] a b = absurd (true≢false b)
lex_total (x ∷ xs) (y ∷ ys) a b =
    let s = step x y (lex xs ys) (lex ys xs) a b in
    let more = lex_total xs ys s.1 s.2 in
    let here = s.0 in
    λ i. here i ∷ more i
  where
    step : (x y : ℕ) (p q : Bool) → (nat_lt x y || (x == y && p)) ≡ false → (nat_lt y x || (y == x && q)) ≡ false → (x ≡ y) × (p ≡ false) × (q ≡ false)
    step x y p q a b = (grind (arith, nat_tests), grind (arith, nat_tests), grind (arith, nat_tests))

-- no two lists come before one another
lex_one_way : (xs ys : List ℕ) → lex xs ys ≡ true → lex ys xs ≡ false
lex_one_way xs ys first = elim (cases_Bool (lex ys xs)) [ inl back ↦ absurd (true≢false (sym (lex_trans xs ys xs first back) ∙ lex_same xs)) | inr fails ↦ fails ]

-- what comes before a list comes before all that don't come before that list
lex_past : (xs ys zs : List ℕ) → lex xs ys ≡ true → lex zs ys ≡ false → lex xs zs ≡ true
lex_past xs ys zs first past = elim (cases_Bool (lex xs zs)) [
  | inl holds ↦ holds
  | inr fails ↦ elim (cases_Bool (lex zs xs)) [
    | inl back ↦ absurd (true≢false (sym (lex_trans zs xs ys back first) ∙ past))
    | inr neither ↦ absurd (true≢false (sym first ∙ ap (λ (l : List ℕ). lex l ys) (lex_total xs zs fails neither) ∙ past))
  ]
]

-- behind equal heads the rest decides
lex_head : (x y : ℕ) (xs ys : List ℕ) → x ≡ y → lex (x ∷ xs) (y ∷ ys) ≡ lex xs ys
lex_head x y xs ys same = step x y (lex xs ys) same
  where
    step : (x y : ℕ) (p : Bool) → x ≡ y → (nat_lt x y || (x == y && p)) ≡ p
    step x y p same = grind (arith, nat_tests)

-- the canonical order is one of places
pub comes_before_order : IsWeakOrder comes_before
unfolding comes_before
comes_before_order = record { one_way = λ i j. lex_one_way (key i) (key j); past = λ i x y. lex_past (key i) (key x) (key y) }

-- and so is that of a queue
pub is_sooner_order : IsWeakOrder is_sooner
unfolding is_sooner
is_sooner_order = record { one_way = λ i j. lex_one_way (due_key i) (due_key j); past = λ i x y. lex_past (due_key i) (due_key x) (due_key y) }

-- what comes before an item comes before all that this one comes before
pub before_trans : (i j k : Parcel) → comes_before i j ≡ true → comes_before j k ≡ true → comes_before i k ≡ true
unfolding comes_before
before_trans i j k a b = lex_trans (key i) (key j) (key k) a b

-- of two items one comes before the other, or they share a place
pub before_total : (i j : Parcel) → comes_before i j ≡ false → comes_before j i ≡ false → key i ≡ key j
unfolding comes_before
before_total i j a b = lex_total (key i) (key j) a b

-- of two items one is sooner than the other, or they share a place in a queue
pub sooner_total : (i j : Parcel) → is_sooner i j ≡ false → is_sooner j i ≡ false → due_key i ≡ due_key j
unfolding is_sooner
sooner_total i j a b = lex_total (due_key i) (due_key j) a b

-- of two that share a place in a queue none is sooner
pub sooner_same_place : (i j : Parcel) → due_key i ≡ due_key j → is_sooner i j ≡ false
unfolding is_sooner
sooner_same_place i j same = ap (λ (l : List ℕ). lex l (due_key j)) same ∙ lex_same (due_key j)

-- no two come before one another
pub before_not_both : (i j : Parcel) → comes_before i j ≡ true → comes_before j i ≡ true → ⊥
before_not_both i j a b = absurd (true≢false (sym b ∙ comes_before_order.one_way i j a))

-- among the items to one federate the two orders are one
pub one_target : (i j : Parcel) → i.target ≡ j.target → comes_before i j ≡ is_sooner i j
unfolding comes_before is_sooner
one_target i j same = lex_head i.target j.target (due_key i) (due_key j) same

-- with one more it is in order
pub insert_ordered : (i : Parcel) (xs : List Parcel) → InOrder xs → InOrder (insert i xs)
insert_ordered i xs order = insert_by_in_order comes_before comes_before_order i xs order

-- what a test leaves is in order
pub filter_ordered : (p : Parcel → Bool) (xs : List Parcel) → InOrder xs → InOrder (filter p xs)
filter_ordered p xs order = filter_in_order comes_before p xs order

-- what comes before the first goes in front of it
pub insert_first : (i x : Parcel) (xs : List Parcel) → comes_before i x ≡ true → insert i (x ∷ xs) ≡ i ∷ x ∷ xs
insert_first i x xs holds = insert_by_first comes_before i x xs holds

-- and else behind it
pub insert_later : (i x : Parcel) (xs : List Parcel) → comes_before i x ≡ false → insert i (x ∷ xs) ≡ x ∷ insert i xs
insert_later i x xs fails = insert_by_later comes_before i x xs fails

-- two in front of a list commute
two : (i j : Parcel) (xs : List Parcel) → (key i ≡ key j → i ≡ j) → insert i xs ≡ i ∷ xs → insert j xs ≡ j ∷ xs → insert i (j ∷ xs) ≡ insert j (i ∷ xs)
two i j xs like i_first j_first = elim (cases_Bool (comes_before i j)) [
  | inl holds ↦ elim (cases_Bool (comes_before j i)) [
    | inl both ↦ absurd (before_not_both i j holds both)
    | inr fails ↦ insert_first i j xs holds ∙ ap (λ (l : List Parcel). i ∷ l) (sym j_first) ∙ sym (insert_later j i xs fails)
  ]
  | inr fails ↦ elim (cases_Bool (comes_before j i)) [
    | inl holds ↦ insert_later i j xs fails ∙ ap (λ (l : List Parcel). j ∷ l) i_first ∙ sym (insert_first j i xs holds)
    | inr neither ↦ let same = like (before_total i j fails neither) in ap (λ (k : Parcel). insert k (j ∷ xs)) same ∙ ap (λ (k : Parcel). insert j (k ∷ xs)) (sym same)
  ]
]

-- an insertion in front of the first and one behind it commute
one_later : (i j x : Parcel) (xs : List Parcel) → comes_before i x ≡ true → comes_before j x ≡ false → insert i (insert j (x ∷ xs)) ≡ insert j (insert i (x ∷ xs))
one_later i j x xs holds fails =
    let not_first : comes_before j i ≡ false = elim (cases_Bool (comes_before j i)) [ inl early ↦ absurd (true≢false (sym (before_trans j i x early holds) ∙ fails)) | inr late ↦ late ] in
    ap (insert i) (insert_later j x xs fails) ∙ insert_first i x (insert j xs) holds
    ∙ ap (λ (l : List Parcel). i ∷ l) (sym (insert_later j x xs fails)) ∙ sym (insert_later j i (x ∷ xs) not_first)
    ∙ ap (insert j) (sym (insert_first i x xs holds))

-- two insertions commute, where equal keys are of equal items
pub insert_commutes : (i j : Parcel) (xs : List Parcel) → (key i ≡ key j → i ≡ j) → insert i (insert j xs) ≡ insert j (insert i xs)
insert_commutes i j [] like = two i j [] like refl refl
insert_commutes i j (x ∷ xs) like = elim (cases_Bool (comes_before i x)) [
  | inl i_first ↦ elim (cases_Bool (comes_before j x)) [
    | inl j_first ↦
        ap (insert i) (insert_first j x xs j_first) ∙ two i j (x ∷ xs) like (insert_first i x xs i_first) (insert_first j x xs j_first)
        ∙ ap (insert j) (sym (insert_first i x xs i_first))
    | inr j_later ↦ one_later i j x xs i_first j_later
  ]
  | inr i_later ↦ elim (cases_Bool (comes_before j x)) [
    | inl j_first ↦ sym (one_later j i x xs j_first i_later)
    | inr j_later ↦
        ap (insert i) (insert_later j x xs j_later) ∙ insert_later i x (insert j xs) i_later
        ∙ ap (λ (l : List Parcel). x ∷ l) (insert_commutes i j xs like)
        ∙ sym (insert_later j x (insert i xs) j_later) ∙ ap (insert j) (sym (insert_later i x xs i_later))
  ]
]

-- an insertion commutes with a list of them
pub insert_all_one : (i : Parcel) (more xs : List Parcel) → Each (λ j. key i ≡ key j → i ≡ j) more → insert_all more (insert i xs) ≡ insert i (insert_all more xs)
insert_all_one i [] xs like = refl
insert_all_one i (j ∷ more) xs like = ap (insert_all more) (insert_commutes j i xs (λ e. sym (like j (inl refl) (sym e)))) ∙ insert_all_one i more (insert j xs) (λ k among. like k (inr among))

-- and so do two lists of them
pub insert_all_commutes : (is js xs : List Parcel) → ((i j : Parcel) → IsIn i is → IsIn j js → key i ≡ key j → i ≡ j) → insert_all is (insert_all js xs) ≡ insert_all js (insert_all is xs)
insert_all_commutes [] js xs like = refl
insert_all_commutes (i ∷ is) js xs like =
    ap (insert_all is) (sym (insert_all_one i js xs (λ j among. like i j (inl refl) among)))
    ∙ insert_all_commutes is js (insert i xs) (λ k j k_among j_among. like k j (inr k_among) j_among)

-- with a list of them it is in order
pub insert_all_ordered : (is xs : List Parcel) → InOrder xs → InOrder (insert_all is xs)
insert_all_ordered [] xs order = order
insert_all_ordered (i ∷ is) xs order = insert_all_ordered is (insert i xs) (insert_ordered i xs order)

-- a test that fails of the new one leaves what it left before
pub filter_skips : (q : Parcel → Bool) (i : Parcel) (xs : List Parcel) → q i ≡ false → filter q (insert i xs) ≡ filter q xs
filter_skips q i [] fails = filter_fails q i [] fails
filter_skips q i (x ∷ xs) fails = elim (cases_Bool (comes_before i x)) [
  | inl first ↦ ap (filter q) (insert_first i x xs first) ∙ filter_fails q i (x ∷ xs) fails
  | inr later ↦
      let more = filter_skips q i xs fails in
      ap (filter q) (insert_later i x xs later) ∙ elim (cases_Bool (q x)) [
        | inl x_holds ↦ filter_holds q x (insert i xs) x_holds ∙ ap (λ (l : List Parcel). x ∷ l) more ∙ sym (filter_holds q x xs x_holds)
        | inr x_fails ↦ filter_fails q x (insert i xs) x_fails ∙ more ∙ sym (filter_fails q x xs x_fails)
      ]
]

-- and one that holds of it leaves that with the new one
pub filter_inserts : (q : Parcel → Bool) (i : Parcel) (xs : List Parcel) → InOrder xs → q i ≡ true → filter q (insert i xs) ≡ insert i (filter q xs)
filter_inserts q i [] order holds = filter_holds q i [] holds
filter_inserts q i (x ∷ xs) order holds = elim (cases_Bool (comes_before i x)) [
  | inl first ↦
      ap (filter q) (insert_first i x xs first) ∙ filter_holds q i (x ∷ xs) holds
      ∙ sym (insert_by_front comes_before i (filter q (x ∷ xs)) (λ y among. before_each comes_before comes_before_order i x xs order first y (in_filter q (x ∷ xs) y among).0))
  | inr later ↦
      let more = filter_inserts q i xs order.1 holds in
      ap (filter q) (insert_later i x xs later) ∙ elim (cases_Bool (q x)) [
        | inl x_holds ↦ filter_holds q x (insert i xs) x_holds ∙ ap (λ (l : List Parcel). x ∷ l) more ∙ sym (insert_later i x (filter q xs) later) ∙ ap (insert i) (sym (filter_holds q x xs x_holds))
        | inr x_fails ↦ filter_fails q x (insert i xs) x_fails ∙ more ∙ ap (insert i) (sym (filter_fails q x xs x_fails))
      ]
]

-- the same with a list of them that it fails of
pub filter_skips_all : (q : Parcel → Bool) (is xs : List Parcel) → Each (λ i. q i ≡ false) is → filter q (insert_all is xs) ≡ filter q xs
filter_skips_all q [] xs fail = refl
filter_skips_all q (i ∷ is) xs fail = filter_skips_all q is (insert i xs) (λ j among. fail j (inr among)) ∙ filter_skips q i xs (fail i (inl refl))

-- and with a list of them that it holds of
pub filter_inserts_all : (q : Parcel → Bool) (is xs : List Parcel) → InOrder xs → Each (λ i. q i ≡ true) is → filter q (insert_all is xs) ≡ insert_all is (filter q xs)
filter_inserts_all q [] xs order hold = refl
filter_inserts_all q (i ∷ is) xs order hold =
    filter_inserts_all q is (insert i xs) (insert_ordered i xs order) (λ j among. hold j (inr among))
    ∙ ap (insert_all is) (filter_inserts q i xs order (hold i (inl refl)))
