-- Tables of links.
use Rattle.std.proofs.Common.{◌≡◌, ◌≢◌, inl, inr, ℕ, ◌+◌, ◌<◌, ◌≤◌, Bool, true, false, List, [], ◌∷◌, ◌++◌, length, get_or, arith, refl, sym, ◌∙◌, ap, subst, length-append, replicate}
use Rattle.std.specs.Prelude.{◌↔◌}
use Rattle.std.specs.List.Sorted.{IsStrictlyIncreasing}
use Rattle.std.proofs.lemmas.Bool.{cases_eq, cases_lt, true≢false}
use Rattle.std.proofs.lemmas.List.{get_or_past, get_or_append_left, get_or_push, get_or-replicate, length-replicate}
use Rattle.hel_lists.specs.Members.{IsIn}
use Rattle.dependency_paths.specs.Paths.{Leads, row_of, AreAncestors}
use Rattle.dependency_paths.specs.Links.{linked}

-- a link leads to a federate of the table
pub to_within : (table : List (List Bool)) (a b : ℕ) → linked table a b ≡ true → b < length table
to_within table a b holds = elim (cases_lt b (length table)) [
  | inl below ↦ below
  | inr past ↦ absurd (true≢false (sym holds ∙ ap (λ (row : List Bool). get_or row a false) (get_or_past table b [] past)))
]

-- what holds of the rows so far and of the new one holds of each
by_row : {A : Type 0} (P : ℕ → List A → Type 0) (rows : List (List A)) (row : List A) → ((f : ℕ) → f ≢ length rows → P f (get_or rows f [])) → P (length rows) row →
    (f : ℕ) → P f (get_or (rows ++ row ∷ []) f [])
by_row P rows row old new f = elim (cases_lt f (length rows)) [
  | inl below ↦ subst (P f) (sym (get_or_append_left rows (row ∷ []) [] f below)) (old f (omega arith))
  | inr past ↦ elim (cases_eq f (length rows)) [
    | inl last ↦ subst (P f) (sym (get_or_push rows row [] f (sym last))) (subst (λ (k : ℕ). P k row) (sym last) new)
    | inr other ↦
        let longer : length (rows ++ row ∷ []) ≤ f = omega (arith, length-append rows (row ∷ [])) in
        subst (P f) (get_or_past rows f [] past ∙ sym (get_or_past (rows ++ row ∷ []) f [] longer)) (old f other)
  ]
]

-- a table of so many rows without links
pub record HasNone (count : ℕ) (table : List (List Bool)) : Type 0 where
  pub rows : length table ≡ count
  pub none : (a b : ℕ) → linked table a b ≡ false

pub one_empty : (count width : ℕ) (before after : List (List Bool)) → HasNone count before → after ≡ before ++ replicate width false ∷ [] → HasNone (count + 1) after
one_empty count width before after were pushed = subst (HasNone (count + 1)) (sym pushed) (record {
  rows = omega (arith, length-append before (replicate width false ∷ []), were.rows);
  none = λ a. by_row (λ b row. get_or row a false ≡ false) before (replicate width false) (λ b other. were.none a b) (elim (cases_lt a width) [
    | inl below ↦ get_or-replicate width a false false below
    | inr past ↦ let past : length (replicate width false) ≤ a = omega (arith, length-replicate width false) in get_or_past (replicate width false) a false past
  ]);
})

-- a closed table as rows of ancestors
pub are_ancestors : (links table closed given : List (List Bool)) (rows : List (List ℕ)) → table ≡ links → given ≡ closed →
    length closed ≡ length table → length rows ≡ length given → ((f : ℕ) → IsStrictlyIncreasing (row_of rows f)) →
    ((a b : ℕ) → (linked closed a b ≡ true) ↔ Leads (linked table) a b) →
    ((a f : ℕ) → IsIn a (row_of rows f) ↔ ((a ≢ f) × (linked given a f ≡ true))) →
    AreAncestors (length links) (linked links) rows
are_ancestors links table closed given rows at_first at_last same count rises paths exact =
    subst (λ (t : List (List Bool)). AreAncestors (length t) (linked t) rows) at_first (record {
      one_each = count ∙ ap length at_last ∙ same;
      ascending = rises;
      exact = λ a f.
          let closed_is : linked given a f ≡ linked closed a f = ap (λ (t : List (List Bool)). linked t a f) at_last in (
            (λ among. let is = (exact a f).0 among in (is.0, (paths a f).0 (sym closed_is ∙ is.1))),
            (λ is. (exact a f).1 (is.0, closed_is ∙ (paths a f).1 is.1)),
          );
    })

-- a number that a row holds has a place in it
pub in_row : (row : List Bool) (a : ℕ) → get_or row a false ≡ true → a < length row
in_row row a holds = elim (cases_lt a (length row)) [
  | inl below ↦ below
  | inr past ↦ absurd (true≢false (sym holds ∙ get_or_past row a false past))
]

-- the rows of the federates up to a place
pub record AreRows (table : List (List Bool)) (n : ℕ) (rows : List (List ℕ)) : Type 0 where
  pub count : length rows ≡ n
  pub rises : (f : ℕ) → IsStrictlyIncreasing (row_of rows f)
  pub sound : (a f : ℕ) → IsIn a (row_of rows f) → (a ≢ f) × (linked table a f ≡ true)
  pub whole : (a f : ℕ) → f < n → a ≢ f → linked table a f ≡ true → IsIn a (row_of rows f)

pub no_rows : (table : List (List Bool)) → AreRows table 0 []
no_rows table = record { count = refl; rises = λ f k below. absurd (omega arith); sound = λ a f among. absurd among; whole = λ a f below apart holds. absurd (omega arith) }

pub one_row : (table : List (List Bool)) (n : ℕ) (rows : List (List ℕ)) (row : List ℕ) → AreRows table n rows → IsStrictlyIncreasing row →
    ((a : ℕ) → IsIn a row ↔ ((a ≢ n) × (linked table a n ≡ true))) → AreRows table (n + 1) (rows ++ row ∷ [])
one_row table n rows row were up exact = record {
  count = omega (arith, length-append rows (row ∷ []), were.count);
  rises = by_row (λ f r. IsStrictlyIncreasing r) rows row (λ f other. were.rises f) up;
  sound = λ a. by_row (λ f r. IsIn a r → (a ≢ f) × (linked table a f ≡ true)) rows row (λ f other. were.sound a f)
      (subst (λ (k : ℕ). IsIn a row → (a ≢ k) × (linked table a k ≡ true)) (sym were.count) (exact a).0);
  whole = λ a. by_row (λ f r. f < n + 1 → a ≢ f → linked table a f ≡ true → IsIn a r) rows row
      (λ f other below apart holds. let count = were.count in were.whole a f (omega arith) apart holds)
      (λ below apart holds. (exact a).1 (subst (λ (k : ℕ). a ≢ k) were.count apart, subst (λ (k : ℕ). linked table a k ≡ true) were.count holds));
}
