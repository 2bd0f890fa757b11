-- What is read by each of a list, item by item.
use Rattle.std.proofs.Common.{◌≡◌, ℕ, ◌+◌, suc, ◌<◌, ◌≤◌, List, [], ◌∷◌, ◌++◌, length, get_or, drop, drop-cons, add-one, Option, Ok, Err, refl, subst, sym, ap, ◌∙◌}
use Rattle.std.proofs.Math.ListN.{drop_of_length-le}
use Rattle.scenario_reading.specs.declared.unread.Unread.{Unread}
use Rattle.scenario_reading.specs.Order.{Order, ends, for_each, Reads}
use Rattle.scenario_reading.specs.Following.{Follows}
use Rattle.scenario_reading.proofs.Orders.{Continues, item_then, reads_same, follows_same, goes_on, ends_there, ends_well}

pub for_none : {A B : Type 0} (one : A → Order B) → for_each one [] ≡ ends (Ok [])
unfolding for_each
for_none one = refl

pub for_cons : {A B : Type 0} (one : A → Order B) (x : A) (more : List A) → for_each one (x ∷ more) ≡ item_then (one x) (for_each one more)
unfolding for_each
for_cons one x more = refl

-- the item at i, and those behind it
for_at : {A B : Type 0} (one : A → Order B) (xs : List A) (i : ℕ) (x : A) → i < length xs → x ≡ get_or xs i x
    → for_each one (drop i xs) ≡ item_then (one x) (for_each one (drop (i + 1) xs))
for_at {A} one xs i x within is =
    ap (for_each one) (drop-cons xs i x within ∙ ap (λ (y : A). y ∷ drop (suc i) xs) (sym is) ∙ ap (λ (n : ℕ). x ∷ drop n xs) (sym (add-one i)))
    ∙ for_cons one x (drop (i + 1) xs)

-- what the item at i says is read
pub one_read : {A B : Type 0} (content now : List ℕ → Option (List ℕ)) (one : A → Order B) (xs : List A) (i : ℕ) (x : A) (front : List B) (y : B) (whole : Order (List B))
    → i < length xs → x ≡ get_or xs i x → ((path : List ℕ) → now path ≡ content path)
    → Continues content whole (for_each one (drop i xs)) front → Reads now (one x) (Ok y)
    → Continues content whole (for_each one (drop (i + 1) xs)) (front ++ y ∷ [])
one_read {A} {B} content now one xs i x front y whole within is same so_far read =
    let P : Order (List B) → Type 0 = λ o. Continues content whole o front in
    goes_on content whole _ (one x) front y (subst P (for_at one xs i x within is) so_far)
    (reads_same now content (one x) (Ok y) same read)

-- what the item at i says isn't read
pub one_unread : {A B : Type 0} (content now : List ℕ → Option (List ℕ)) (one : A → Order B) (xs : List A) (i : ℕ) (x : A) (front : List B) (f : Unread) (whole : Order (List B))
    → i < length xs → x ≡ get_or xs i x → ((path : List ℕ) → now path ≡ content path)
    → Continues content whole (for_each one (drop i xs)) front → Follows {X = B} (λ y. y) now (one x) (Err f)
    → Follows {X = List B} (λ ys. ys) content whole (Err f)
one_unread {A} {B} content now one xs i x front f whole within is same so_far read =
    let P : Order (List B) → Type 0 = λ o. Continues content whole o front in
    ends_there {X = B} (λ y. y) (λ ys. ys) content whole _ (one x) front f (subst P (for_at one xs i x within is) so_far)
    (follows_same (λ y. y) now content (one x) (Err f) same read)

-- no item is left
pub all_read : {A B : Type 0} (content : List ℕ → Option (List ℕ)) (one : A → Order B) (xs : List A) (i : ℕ) (front : List B) (whole : Order (List B))
    → length xs ≤ i → Continues content whole (for_each one (drop i xs)) front → Reads content whole (Ok front)
all_read {A} {B} content one xs i front whole past so_far =
    let P : Order (List B) → Type 0 = λ o. Continues content whole o front in
    ends_well content whole front (subst P (ap (for_each one) (drop_of_length-le xs past) ∙ for_none one) so_far)
