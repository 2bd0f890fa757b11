-- Laws of ancestors.
use Rattle.std.specs.Prelude.{ℕ, ◌≡◌, ◌≢◌, Bool, List}
use Rattle.hel_lists.specs.Members.{IsIn}
use Rattle.dependency_paths.specs.Paths.{row_of, AreAncestors}

pub record AncestorLaws : Type 0 where
  -- an ancestor's ancestor is an ancestor, or the federate itself
  pub closed : (count : ℕ) (link : ℕ → ℕ → Bool) (rows : List (List ℕ)) (a b f : ℕ) → AreAncestors count link rows →
      IsIn a (row_of rows b) → IsIn b (row_of rows f) → a ≢ f → IsIn a (row_of rows f)
  -- there is only one such list of rows
  pub one : (count : ℕ) (link : ℕ → ℕ → Bool) (rows others : List (List ℕ)) → AreAncestors count link rows →
      AreAncestors count link others → rows ≡ others
