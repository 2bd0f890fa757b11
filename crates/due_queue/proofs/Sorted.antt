-- Insertions keep a list in order and stand behind their equals, and filters keep it in order.
use Rattle.std.proofs.Common.{◌≡◌, ◌⊎◌, inl, inr, Bool, true, false, refl, ◌∙◌, ap, List, [], ◌∷◌}
use Rattle.std.specs.Prelude.{if◌then◌else◌}
use Rattle.std.specs.List.{filter}
use Rattle.std.proofs.lemmas.Bool.{cases_Bool}
use Rattle.hel_lists.specs.Members.{IsIn, Each}
use Rattle.hel_lists.proofs.Members.{in_filter}
use Rattle.due_queue.specs.Sorted.{IsInOrder, insert_by}

-- a test that puts into order, where those that aren't before one another share a place
pub record IsWeakOrder {A : Type 0} (before : A → A → Bool) : Type 0 where
  pub one_way : (i j : A) → before i j ≡ true → before j i ≡ false
  -- what comes before x comes before what doesn't come before x
  pub past : (i x y : A) → before i x ≡ true → before y x ≡ false → before i y ≡ true

module _ {A : Type 0} (before : A → A → Bool) where
  -- who stands in a list with one more is that one or stood there
  pub in_insert_by : (i : A) (xs : List A) (x : A) → IsIn x (insert_by before i xs) → (x ≡ i) ⊎ IsIn x xs
  in_insert_by i [] x among = among
  in_insert_by i (y ∷ ys) x among = elim (cases_Bool (before i y)) [
    | inl holds ↦ rw holds at among
    | inr fails ↦ let cut = rw fails at among in elim cut [
      | inl here ↦ inr (inl here)
      | inr later ↦ elim (in_insert_by i ys x later) [ inl new ↦ inl new | inr old ↦ inr (inr old) ]
    ]
  ]

  -- what comes before the first goes in front of it
  pub insert_by_first : (i x : A) (xs : List A) → before i x ≡ true → insert_by before i (x ∷ xs) ≡ i ∷ x ∷ xs
  insert_by_first i x xs holds = rw holds refl

  -- and else behind it
  pub insert_by_later : (i x : A) (xs : List A) → before i x ≡ false → insert_by before i (x ∷ xs) ≡ x ∷ insert_by before i xs
  insert_by_later i x xs fails = rw fails refl

  -- what comes before each of a list goes to its front
  pub insert_by_front : (i : A) (xs : List A) → Each (λ x. before i x ≡ true) xs → insert_by before i xs ≡ i ∷ xs
  insert_by_front i [] each = refl
  insert_by_front i (x ∷ xs) each = insert_by_first i x xs (each x (inl refl))

  -- what a test leaves is in order
  pub filter_in_order : (p : A → Bool) (xs : List A) → IsInOrder before xs → IsInOrder before (filter p xs)
  filter_in_order p [] order = tt
  filter_in_order p (x ∷ xs) order =
      let more = filter_in_order p xs order.1 in
      elim (p x) as (λ b. IsInOrder before (if b then x ∷ filter p xs else filter p xs)) [
        | true ↦ ((λ j among. order.0 j (in_filter p xs j among).0), more)
        | false ↦ more
      ]

  module _ (weak : IsWeakOrder before) where
    -- in order, what comes before the first comes before each
    pub before_each : (i x : A) (xs : List A) → IsInOrder before (x ∷ xs) → before i x ≡ true → Each (λ y. before i y ≡ true) (x ∷ xs)
    before_each i x xs order holds = λ y among. elim among [
      | inl here ↦ ap (before i) here ∙ holds
      | inr later ↦ weak.past i x y holds (order.0 y later)
    ]

    -- with one more it is in order
    pub insert_by_in_order : (i : A) (xs : List A) → IsInOrder before xs → IsInOrder before (insert_by before i xs)
    insert_by_in_order i [] order = ((λ j none. absurd none), tt)
    insert_by_in_order i (x ∷ xs) order = elim (cases_Bool (before i x)) [
      | inl holds ↦ rw holds ((λ j among. weak.one_way i j (before_each i x xs order holds j among)), order)
      | inr fails ↦
          rw fails (
            (λ j among. elim (in_insert_by i xs j among) [ inl here ↦ ap (λ (k : A). before k x) here ∙ fails | inr old ↦ order.0 j old ]),
            insert_by_in_order i xs order.1,
          )
    ]
