-- After any calls a queue is the ordered list of the items put and not taken out, and there is only one.
use Rattle.std.proofs.Common.{◌≡◌, ◌≢◌, inl, inr, ℕ, Bool, true, false, refl, sym, ◌∙◌, ap, subst, List, [], ◌∷◌, ◌++◌, drop, append-nil}
use Rattle.std.specs.Prelude.{Some, None}
use Rattle.std.specs.List.{filter}
use Rattle.std.proofs.lemmas.Bool.{cases_Bool, true≢false, false≢true}
use Rattle.std.proofs.lemmas.List.Elements.{filter-append}
use Rattle.std.proofs.lemmas.Slice.Eq.{bytes_eq-Decides}
use Rattle.hel_lists.specs.Members.{IsIn, Each}
use Rattle.hel_lists.proofs.Members.{in_filter, filter_holds, filter_fails, filter_commutes}
use Rattle.due_queue.specs.Item.{Parcel}
use Rattle.due_queue.specs.Order.{due_key, is_sooner, InDueOrder, enqueue}
use Rattle.due_queue.specs.Queue.{is_made_otherwise}
use Rattle.due_queue.specs.Runs.{Call, puts, takes_due, takes_back, Runs, is_at, without, kept, Arranges}
use Rattle.due_queue.proofs.Sorted.{before_each, insert_by_first, insert_by_later, filter_in_order, insert_by_in_order}
use Rattle.due_queue.proofs.Order.{is_sooner_order, sooner_total, sooner_same_place}
use Rattle.due_queue.proofs.Dues.{not_itself, filter_none}

-- an item is at its own place
at_own : (i : Parcel) → is_at (due_key i) i ≡ true
at_own i = (bytes_eq-Decides (due_key i) (due_key i)).1 refl

-- an item at a place has it
place_of : (place : List ℕ) (i : Parcel) → is_at place i ≡ true → due_key i ≡ place
place_of place i holds = (bytes_eq-Decides (due_key i) place).0 holds

-- an item that is put in stands behind those of its place
filter_puts : (place : List ℕ) (i : Parcel) (xs : List Parcel) → InDueOrder xs → filter (is_at place) (enqueue i xs) ≡ filter (is_at place) xs ++ filter (is_at place) (i ∷ [])
filter_puts place i [] order = refl
filter_puts place i (x ∷ xs) order = elim (cases_Bool (is_sooner i x)) [
  | inl first ↦
      ap (filter (is_at place)) (insert_by_first is_sooner i x xs first) ∙ elim (cases_Bool (is_at place i)) [
        | inl holds ↦
            let away : Each (λ y. is_at place y ≡ false) (x ∷ xs) = (λ y among. elim (cases_Bool (is_at place y)) [
              | inl here ↦ absurd (true≢false (sym (before_each is_sooner is_sooner_order i x xs order first y among) ∙ sooner_same_place i y (place_of place i holds ∙ sym (place_of place y here))))
              | inr fails ↦ fails
            ]) in
            let none = filter_none (is_at place) (x ∷ xs) away in
            filter_holds (is_at place) i (x ∷ xs) holds ∙ ap (λ (l : List Parcel). i ∷ l) none ∙ sym (ap (λ (l : List Parcel). l ++ filter (is_at place) (i ∷ [])) none ∙ filter_holds (is_at place) i [] holds)
        | inr fails ↦
            filter_fails (is_at place) i (x ∷ xs) fails ∙ sym (append-nil (filter (is_at place) (x ∷ xs))) ∙ sym (ap (λ (l : List Parcel). filter (is_at place) (x ∷ xs) ++ l) (filter_fails (is_at place) i [] fails))
      ]
  | inr later ↦
      let more = filter_puts place i xs order.1 in
      ap (filter (is_at place)) (insert_by_later is_sooner i x xs later) ∙ elim (cases_Bool (is_at place x)) [
        | inl holds ↦
            filter_holds (is_at place) x (enqueue i xs) holds ∙ ap (λ (l : List Parcel). x ∷ l) more
            ∙ sym (ap (λ (l : List Parcel). l ++ filter (is_at place) (i ∷ [])) (filter_holds (is_at place) x xs holds))
        | inr fails ↦
            filter_fails (is_at place) x (enqueue i xs) fails ∙ more ∙ sym (ap (λ (l : List Parcel). l ++ filter (is_at place) (i ∷ [])) (filter_fails (is_at place) x xs fails))
      ]
]

-- without its first item a place has all but that one
without_there : (place : List ℕ) (xs : List Parcel) → filter (is_at place) (without place xs) ≡ drop 1 (filter (is_at place) xs)
without_there place [] = refl
without_there place (x ∷ xs) = elim (cases_Bool (is_at place x)) [
  | inl holds ↦ rw holds refl
  | inr fails ↦ rw fails (filter_fails (is_at place) x (without place xs) fails ∙ without_there place xs)
]

-- and every other place has what it had
without_elsewhere : (place other : List ℕ) (xs : List Parcel) → other ≢ place → filter (is_at other) (without place xs) ≡ filter (is_at other) xs
without_elsewhere place other [] differs = refl
without_elsewhere place other (x ∷ xs) differs = elim (cases_Bool (is_at place x)) [
  | inl holds ↦
      let fails : is_at other x ≡ false = elim (cases_Bool (is_at other x)) [ inl there ↦ absurd (differs (sym (place_of other x there) ∙ place_of place x holds)) | inr away ↦ away ] in
      ap (filter (is_at other)) (without_holds place x xs holds) ∙ sym (filter_fails (is_at other) x xs fails)
  | inr fails ↦
      let more = without_elsewhere place other xs differs in
      ap (filter (is_at other)) (without_fails place x xs fails) ∙ elim (cases_Bool (is_at other x)) [
        | inl there ↦ filter_holds (is_at other) x (without place xs) there ∙ ap (λ (l : List Parcel). x ∷ l) more ∙ sym (filter_holds (is_at other) x xs there)
        | inr away ↦ filter_fails (is_at other) x (without place xs) away ∙ more ∙ sym (filter_fails (is_at other) x xs away)
      ]
]
  where
    without_holds : (place : List ℕ) (x : Parcel) (xs : List Parcel) → is_at place x ≡ true → without place (x ∷ xs) ≡ xs
    without_holds place x xs holds = rw holds refl

    without_fails : (place : List ℕ) (x : Parcel) (xs : List Parcel) → is_at place x ≡ false → without place (x ∷ xs) ≡ x ∷ without place xs
    without_fails place x xs fails = rw fails refl

-- a list of calls keeps the content arranged
keeps : (calls : List Call) (came before after : List Parcel) → Arranges came before → Runs before calls after → Arranges (kept came calls) after
keeps [] came before after so_far run = subst (Arranges came) (sym run) so_far
keeps (puts i ∷ calls) came before after so_far run = keeps calls (came ++ i ∷ []) run.0 after (subst (Arranges (came ++ i ∷ [])) (sym run.1) more) run.2
  where
    more : Arranges (came ++ i ∷ []) (enqueue i before)
    more = record {
      in_order = insert_by_in_order is_sooner is_sooner_order i before so_far.in_order;
      same = λ place. filter_puts place i before so_far.in_order ∙ ap (λ (l : List Parcel). l ++ filter (is_at place) (i ∷ [])) (so_far.same place) ∙ sym (filter-append (is_at place) came (i ∷ []));
    }
keeps (takes_due cut None ∷ calls) came before after so_far run = keeps calls came run.0 after (subst (Arranges came) (sym run.1.1) so_far) run.2
keeps (takes_due cut (Some i) ∷ calls) came before after so_far run = keeps calls (without (due_key i) came) run.0 after more run.2
  where
    whole : Arranges came (i ∷ run.0)
    whole = subst (Arranges came) run.1.1 so_far

    of_place : (place : List ℕ) → (b : Bool) → is_at place i ≡ b → filter (is_at place) run.0 ≡ filter (is_at place) (without (due_key i) came)
    of_place place true holds =
        ap (drop 1) (sym (filter_holds (is_at place) i run.0 holds) ∙ whole.same place) ∙ sym (without_there place came)
        ∙ ap (λ (q : List ℕ). filter (is_at place) (without q came)) (sym (place_of place i holds))
    of_place place false fails =
        sym (filter_fails (is_at place) i run.0 fails) ∙ whole.same place
        ∙ sym (without_elsewhere (due_key i) place came (λ e. false≢true (sym fails ∙ (bytes_eq-Decides (due_key i) place).1 (sym e))))

    more : Arranges (without (due_key i) came) run.0
    more = record { in_order = whole.in_order.1; same = λ place. of_place place (is_at place i) refl }
keeps (takes_back source seq count ∷ calls) came before after so_far run = keeps calls (filter (is_made_otherwise source seq) came) run.0 after (subst (Arranges (filter (is_made_otherwise source seq) came)) (sym run.1.0) more) run.2
  where
    more : Arranges (filter (is_made_otherwise source seq) came) (filter (is_made_otherwise source seq) before)
    more = record {
      in_order = filter_in_order is_sooner (is_made_otherwise source seq) before so_far.in_order;
      same = λ place. filter_commutes (is_at place) (is_made_otherwise source seq) before ∙ ap (filter (is_made_otherwise source seq)) (so_far.same place)
          ∙ filter_commutes (is_made_otherwise source seq) (is_at place) came;
    }

-- after any calls of an empty queue its content is the items kept, arranged
pub runs_arrange : (calls : List Call) (content : List Parcel) → Runs [] calls content → Arranges (kept [] calls) content
runs_arrange calls content run = keeps calls [] [] content (record { in_order = tt; same = λ place. refl }) run

-- lists in order that have the same of each place are one
same_lists : (xs ys : List Parcel) → InDueOrder xs → InDueOrder ys → ((place : List ℕ) → filter (is_at place) xs ≡ filter (is_at place) ys) → xs ≡ ys
same_lists [] [] xs_order ys_order same = refl
same_lists [] (y ∷ ys) xs_order ys_order same = let there = filter_holds (is_at (due_key y)) y ys (at_own y) in let none = same (due_key y) in cc
same_lists (x ∷ xs) [] xs_order ys_order same = let there = filter_holds (is_at (due_key x)) x xs (at_own x) in let none = same (due_key x) in cc
same_lists (x ∷ xs) (y ∷ ys) xs_order ys_order same = let rest = same_lists xs ys xs_order.1 ys_order.1 (λ place. others place (is_at place x) refl) in λ k. first k ∷ rest k
  where
    not_sooner : (i j : Parcel) (is js : List Parcel) → InDueOrder (j ∷ js) → filter (is_at (due_key i)) (i ∷ is) ≡ filter (is_at (due_key i)) (j ∷ js) → is_sooner i j ≡ false
    not_sooner i j is js order alike =
        let there : IsIn i (filter (is_at (due_key i)) (j ∷ js)) = subst (λ (l : List Parcel). IsIn i l) (sym (filter_holds (is_at (due_key i)) i is (at_own i)) ∙ alike) (inl refl) in
        elim (in_filter (is_at (due_key i)) (j ∷ js) i there).0 [ inl here ↦ ap (λ (k : Parcel). is_sooner k j) here ∙ not_itself j | inr later ↦ order.0 i later ]

    one_place : due_key x ≡ due_key y
    one_place = sooner_total x y (not_sooner x y xs ys ys_order (same (due_key x))) (not_sooner y x ys xs xs_order (sym (same (due_key y))))

    heads : x ∷ filter (is_at (due_key x)) xs ≡ y ∷ filter (is_at (due_key x)) ys
    heads = sym (filter_holds (is_at (due_key x)) x xs (at_own x)) ∙ same (due_key x) ∙ filter_holds (is_at (due_key x)) y ys ((bytes_eq-Decides (due_key y) (due_key x)).1 (sym one_place))

    first : x ≡ y
    first = cc heads

    others : (place : List ℕ) (b : Bool) → is_at place x ≡ b → filter (is_at place) xs ≡ filter (is_at place) ys
    others place true holds =
        let all : x ∷ filter (is_at place) xs ≡ y ∷ filter (is_at place) ys = sym (filter_holds (is_at place) x xs holds) ∙ same place ∙ filter_holds (is_at place) y ys (sym (ap (is_at place) first) ∙ holds) in
        cc
    others place false fails = sym (filter_fails (is_at place) x xs fails) ∙ same place ∙ filter_fails (is_at place) y ys (sym (ap (is_at place) first) ∙ fails)

-- items are arranged in one way
pub arranged_one : (came content other : List Parcel) → Arranges came content → Arranges came other → content ≡ other
arranged_one came content other a b = same_lists content other a.in_order b.in_order (λ place. a.same place ∙ sym (b.same place))
