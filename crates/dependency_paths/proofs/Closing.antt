-- Closing a table of links, one federate after another.
use Rattle.std.proofs.Common.{◌≡◌, ◌⊎◌, inl, inr, ℕ, ◌+◌, ◌<◌, Bool, true, arith, sym, ◌∙◌, subst}
use Rattle.std.specs.Prelude.{◌||◌, ◌&&◌}
use Rattle.std.proofs.lemmas.Bool.{cases_eq, or_cases, or_left, or_right, and_parts, and_from}
use Rattle.dependency_paths.specs.Paths.{Leads}
use Rattle.dependency_paths.specs.Paths.Leads.{by_link, by_way_of}

-- what one pass leaves: who was linked to `via` is linked to all to which that was
pub record IsPassed (old new : ℕ → ℕ → Bool) (via : ℕ) : Type 0 where
  pub is : (a b : ℕ) → new a b ≡ (old a b || (old via b && old a via))

-- what the passes up to `via` leave of the links at first
pub record IsClosing (first now : ℕ → ℕ → Bool) (via : ℕ) : Type 0 where
  pub sound : (a b : ℕ) → now a b ≡ true → Leads first a b
  pub kept : (a b : ℕ) → first a b ≡ true → now a b ≡ true
  pub through : (a k b : ℕ) → k < via → now a k ≡ true → now k b ≡ true → now a b ≡ true

pub begins : (first : ℕ → ℕ → Bool) → IsClosing first first 0
begins first = record { sound = λ a b link. by_link a b link; kept = λ a b link. link; through = λ a k b none here there. absurd (omega arith) }

parted : {old new : ℕ → ℕ → Bool} {via : ℕ} → IsPassed old new via → (a b : ℕ) → new a b ≡ true → (old a b ≡ true) ⊎ ((old via b ≡ true) × (old a via ≡ true))
parted {old = old} {via = via} passed a b holds = elim (or_cases (old a b) (old via b && old a via) (sym (passed.is a b) ∙ holds)) [
  | inl was ↦ inl was
  | inr both ↦ inr (and_parts (old via b) (old a via) both)
]

stays : {old new : ℕ → ℕ → Bool} {via : ℕ} → IsPassed old new via → (a b : ℕ) → old a b ≡ true → new a b ≡ true
stays {old = old} {via = via} passed a b was = passed.is a b ∙ or_left (old a b) (old via b && old a via) was

joins : {old new : ℕ → ℕ → Bool} {via : ℕ} → IsPassed old new via → (a b : ℕ) → old a via ≡ true → old via b ≡ true → new a b ≡ true
joins {old = old} {via = via} passed a b here there = passed.is a b ∙ or_right (old a b) (old via b && old a via) (and_from (old via b) (old a via) there here)

-- whatever leads to or from `via` itself did so before its pass
to_via : {old new : ℕ → ℕ → Bool} {via : ℕ} → IsPassed old new via → (a : ℕ) → new a via ≡ true → old a via ≡ true
to_via passed a holds = elim (parted passed a _ holds) [ inl was ↦ was | inr both ↦ both.1 ]

from_via : {old new : ℕ → ℕ → Bool} {via : ℕ} → IsPassed old new via → (b : ℕ) → new via b ≡ true → old via b ≡ true
from_via passed b holds = elim (parted passed _ b holds) [ inl was ↦ was | inr both ↦ both.0 ]

through_more : (first old new : ℕ → ℕ → Bool) (via : ℕ) → IsClosing first old via → IsPassed old new via →
    (a k b : ℕ) → k < via + 1 → new a k ≡ true → new k b ≡ true → new a b ≡ true
through_more first old new via closing passed a k b below here there = elim (cases_eq k via) [
  | inl same ↦
      joins passed a b (to_via passed a (subst (λ (j : ℕ). new a j ≡ true) same here)) (from_via passed b (subst (λ (j : ℕ). new j b ≡ true) same there))
  | inr other ↦
      let less : k < via = omega arith in
      elim (parted passed a k here) [
        | inl to ↦ elim (parted passed k b there) [
          | inl from ↦ stays passed a b (closing.through a k b less to from)
          | inr from ↦ joins passed a b (closing.through a k via less to from.1) from.0
        ]
        | inr to ↦ elim (parted passed k b there) [
          | inl from ↦ joins passed a b to.1 (closing.through via k b less to.0 from)
          | inr from ↦ joins passed a b to.1 from.0
        ]
      ]
]

pub goes_on : (first old new : ℕ → ℕ → Bool) (via : ℕ) → IsClosing first old via → IsPassed old new via → IsClosing first new (via + 1)
goes_on first old new via closing passed = record {
  sound = λ a b holds. elim (parted passed a b holds) [
    | inl was ↦ closing.sound a b was
    | inr both ↦ by_way_of a via b (closing.sound a via both.1) (closing.sound via b both.0)
  ];
  kept = λ a b link. stays passed a b (closing.kept a b link);
  through = through_more first old new via closing passed;
}

-- once all passes are made, a path is a link
pub closed : (first now : ℕ → ℕ → Bool) (count : ℕ) → IsClosing first now count → ((a b : ℕ) → now a b ≡ true → b < count) →
    (a b : ℕ) → Leads first a b → now a b ≡ true
closed first now count closing within _ _ (by_link a b link) = closing.kept a b link
closed first now count closing within _ _ (by_way_of a k b here there) =
    let to : now a k ≡ true = closed first now count closing within a k here in
    closing.through a k b (within a k to) to (closed first now count closing within k b there)
