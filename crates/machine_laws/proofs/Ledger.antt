-- Items put in, handed over and left add up.
use Rattle.std.proofs.Common.{◌≡◌, inl, inr, ℕ, ◌+◌, Bool, arith, refl, sym, ◌∙◌, ap, List, [], ◌∷◌, ◌++◌, length, length-append}
use Rattle.std.specs.Prelude.{if◌then◌else◌, not}
use Rattle.std.specs.List.{filter}
use Rattle.std.proofs.lemmas.Bool.{cases_Bool}
use Rattle.std.proofs.lemmas.List.Elements.{filter-append}
use Rattle.hel_lists.proofs.Members.{filter_holds, filter_fails}
use Rattle.due_queue.specs.Item.{Parcel}
use Rattle.due_queue.specs.Order.{insert, insert_all, comes_before}
use Rattle.due_queue.proofs.Order.{insert_first, insert_later}
use Rattle.machine_laws.specs.Plan.{Plan}
use Rattle.machine_laws.specs.Machine.{State, Step, cut_in, is_handed, items_in, after, IsRun, opening}
use Rattle.machine_laws.specs.Machine.Step.{make, grant}
use Rattle.machine_laws.specs.Laws.{handed_by, put_by, all_handed, all_put, ItemsAddUp}

-- how many of a sort
count : (Parcel → Bool) → List Parcel → ℕ
count q xs = length (filter q xs)

-- 1 for an item of the sort
one : (Parcel → Bool) → Parcel → ℕ
one q i = if q i then 1 else 0

-- counts of lists: empty, with one more in front, with one or all of a list put in, and joined
count_nil : (q : Parcel → Bool) → count q [] ≡ 0
unfolding count
count_nil q = refl

count_cons : (q : Parcel → Bool) (i : Parcel) (xs : List Parcel) → count q (i ∷ xs) ≡ one q i + count q xs
unfolding count one
count_cons q i xs = elim (cases_Bool (q i)) [
  | inl holds ↦ (let e : one q i ≡ 1 = rw holds refl in let l : length (filter q (i ∷ xs)) ≡ length (i ∷ filter q xs) = ap length (filter_holds q i xs holds) in omega (arith, e, l))
  | inr fails ↦ (let e : one q i ≡ 0 = rw fails refl in let l : length (filter q (i ∷ xs)) ≡ length (filter q xs) = ap length (filter_fails q i xs fails) in omega (arith, e, l))
]

count_insert : (q : Parcel → Bool) (i : Parcel) (xs : List Parcel) → count q (insert i xs) ≡ one q i + count q xs
count_insert q i [] = count_cons q i []
count_insert q i (x ∷ xs) = elim (cases_Bool (comes_before i x)) [
  | inl first ↦ ap (count q) (insert_first i x xs first) ∙ count_cons q i (x ∷ xs)
  | inr later ↦
      (let e = ap (count q) (insert_later i x xs later) in
      let a = count_cons q x (insert i xs) in
      let b = count_insert q i xs in
      let c = count_cons q x xs in
      omega (arith, e, a, b, c))
]

count_insert_all : (q : Parcel → Bool) (is xs : List Parcel) → count q (insert_all is xs) ≡ count q is + count q xs
count_insert_all q [] xs = let e = count_nil q in omega (arith, e)
count_insert_all q (i ∷ is) xs =
    let a = count_insert_all q is (insert i xs) in
    let b = count_insert q i xs in
    let c = count_cons q i is in
    omega (arith, a, b, c)

-- those of which r holds, and the others
count_split : (q r : Parcel → Bool) (xs : List Parcel) → count q (filter r xs) + count q (filter (λ (i : Parcel). not (r i)) xs) ≡ count q xs
count_split q r [] = omega (arith, count_nil q)
count_split q r (x ∷ xs) =
    let more = count_split q r xs in
    let c = count_cons q x xs in
    elim (cases_Bool (r x)) [
      | inl holds ↦
          (let a = ap (count q) (filter_holds r x xs holds) in
          let b = ap (count q) (filter_fails (λ (i : Parcel). not (r i)) x xs (ap not holds)) in
          let d = count_cons q x (filter r xs) in
          omega (arith, more, c, a, b, d))
      | inr fails ↦
          (let a = ap (count q) (filter_fails r x xs fails) in
          let b = ap (count q) (filter_holds (λ (i : Parcel). not (r i)) x xs (ap not fails)) in
          let d = count_cons q x (filter (λ (i : Parcel). not (r i)) xs) in
          omega (arith, more, c, a, b, d))
    ]

count_append : (q : Parcel → Bool) (xs ys : List Parcel) → count q (xs ++ ys) ≡ count q xs + count q ys
unfolding count
count_append q xs ys = ap length (filter-append q xs ys) ∙ length-append (filter q xs) (filter q ys)

-- a step: what it puts in and what was there is what it hands over and what is left
adds_step : (q : Parcel → Bool) (p : Plan) (s : State) (step : Step) → count q (put_by p s step) + count q s.items ≡ count q (handed_by s step) + count q (after p s step).items
adds_step q p s (make f call) = let a = count_insert_all q (items_in p s f call) s.items in let n = count_nil q in omega (arith, a, n)
adds_step q p s (grant f) = let a = count_split q (is_handed f (cut_in s f)) s.items in let n = count_nil q in omega (arith, a, n)
adds_step q p s step = refl

-- and so is a run
adds_run : (q : Parcel → Bool) (p : Plan) (s : State) (steps : List Step) (end : State) → IsRun p s steps end → count q (all_put p s steps) + count q s.items ≡ count q (all_handed p s steps) + count q end.items
adds_run q p s [] end run = ap (λ (t : State). count q [] + count q t.items) (sym run)
adds_run q p s (step ∷ steps) end run =
    let one_step = adds_step q p s step in
    let rest = adds_run q p (after p s step) steps end run.1 in
    let a = count_append q (put_by p s step) (all_put p (after p s step) steps) in
    let b = count_append q (handed_by s step) (all_handed p (after p s step) steps) in
    omega (arith, one_step, rest, a, b)

pub items_add_up : ItemsAddUp
unfolding count
items_add_up p steps end sort run = let e = adds_run sort p (opening p) steps end run in omega (arith, e)
