-- The laws of ancestors.
use Rattle.std.proofs.Common.{◌≡◌, ◌≢◌, ℕ, Bool, List, [], sym, ◌∙◌}
use Rattle.hel_lists.specs.Members.{IsIn}
use Rattle.dependency_paths.specs.Paths.{row_of, AreAncestors}
use Rattle.dependency_paths.specs.Paths.Leads.{by_way_of}
use Rattle.dependency_paths.specs.Laws.{AncestorLaws}
use Rattle.dependency_paths.proofs.Rows.{one_list, same_items}

closed : (count : ℕ) (link : ℕ → ℕ → Bool) (rows : List (List ℕ)) (a b f : ℕ) → AreAncestors count link rows →
    IsIn a (row_of rows b) → IsIn b (row_of rows f) → a ≢ f → IsIn a (row_of rows f)
closed count link rows a b f are here there apart =
    (are.exact a f).1 (apart, by_way_of a b f ((are.exact a b).0 here).1 ((are.exact b f).0 there).1)

same_row : (count : ℕ) (link : ℕ → ℕ → Bool) (rows others : List (List ℕ)) → AreAncestors count link rows → AreAncestors count link others →
    (f : ℕ) → row_of rows f ≡ row_of others f
same_row count link rows others are also f =
    one_list (row_of rows f) (row_of others f) (are.ascending f) (also.ascending f)
    (λ a among. (also.exact a f).1 ((are.exact a f).0 among)) (λ a among. (are.exact a f).1 ((also.exact a f).0 among))

pub ancestor_laws : AncestorLaws
ancestor_laws = record {
  closed = closed;
  one = λ count link rows others are also. same_items [] rows others (are.one_each ∙ sym also.one_each) (same_row count link rows others are also);
}
