-- Lists that are read one item after another.
use Rattle.std.proofs.Common.{◌≡◌, ℕ, zero, suc, ◌≤◌, arith, ◌+◌, ◌<◌, ◌⊎◌, inl, inr, refl, ap, sym, ◌∙◌, List, [], ◌∷◌, ◌++◌, length, drop, drop-cons, get_or, Ok, Err, append_assoc, decimal}
use Rattle.std.proofs.lemmas.List.{append-nil}
use Rattle.serde_json.specs.Data.{Data, Items, no_items, item}
use Rattle.serde_json.specs.View.{view, items_view}
use Rattle.serde_json.specs.declared.value.Value.{Value}
use Rattle.json_reading.specs.Reading.{Read, ◌>>=◌, below, under, each_from, Stands}
use Rattle.json_reading.specs.declared.refusal.ConfigRefusal.{ConfigRefusal}
use Rattle.serde_json.specs.Events.{items_len}
use Rattle.serde_json.proofs.Views.{items_len-items_view}
use Rattle.json_reading.specs.declared.refusal.ConfigCause.TheVariants.{OutOfMemory}

-- a list that goes on behind what has been read
abbrev pub with_front : {A : Type 0} → List A → Read (List A) → Read (List A)
with_front front read = read >>= λ xs. Ok (front ++ xs)

go_ok : {A : Type 0} (front : List A) (x : A) (r : Read (List A))
    → with_front front (r >>= λ xs. Ok (x ∷ xs)) ≡ with_front (front ++ x ∷ []) r
go_ok front x (Ok xs) = ap Ok (sym (append_assoc front (x ∷ []) xs))
go_ok front x (Err e) = refl

-- one item that is read
pub front_ok : {A : Type 0} (read : Data → Read A) (front : List A) (i : ℕ) (d : Data) (ds : Items) (x : A) → read d ≡ Ok x
    → with_front front (each_from read i (item d ds)) ≡ with_front (front ++ x ∷ []) (each_from read (i + 1) ds)
unfolding each_from
front_ok read front i d ds x e =
    ap (λ r. with_front front (under (decimal i) r >>= λ x. each_from read (i + 1) ds >>= λ xs. Ok (x ∷ xs))) e
    ∙ go_ok front x (each_from read (i + 1) ds)

-- one that is refused
pub front_err : {A : Type 0} (read : Data → Read A) (front : List A) (i : ℕ) (d : Data) (ds : Items) (e : ConfigRefusal) → read d ≡ Err e
    → with_front front (each_from read i (item d ds)) ≡ Err (below (decimal i) e)
unfolding each_from
front_err read front i d ds e refused =
    ap (λ r. with_front front (under (decimal i) r >>= λ x. each_from read (i + 1) ds >>= λ xs. Ok (x ∷ xs))) refused

-- no more items
pub front_end : {A : Type 0} (read : Data → Read A) (front : List A) (i : ℕ) → with_front front (each_from read i no_items) ≡ Ok front
unfolding each_from
front_end read front i = ap Ok (append-nil front)

pub next_item : (vs : List Value) (i : ℕ) (v : Value) → i < length vs
    → items_view (drop i vs) ≡ item (view (get_or vs i v)) (items_view (drop (suc i) vs))
next_item vs i v lt = ap items_view (drop-cons vs i v lt)

-- what stands for a refused item stands for the list
pub err_step : {A : Type 0} (read : Data → Read A) (front : List A) (i : ℕ) (d : Data) (ds : Items) (e b : ConfigRefusal)
    → (e.cause ≡ OutOfMemory) ⊎ (read d ≡ Err e) → Stands b (below (decimal i) e)
    → (b.cause ≡ OutOfMemory) ⊎ (with_front front (each_from read i (item d ds)) ≡ Err b)
err_step read front i d ds e b known stands = elim stands [
  | inl m ↦ inl (ap (λ (x : ConfigRefusal). x.cause) m)
  | inr f ↦ elim known [
    | inl m ↦ inl (ap (λ (x : ConfigRefusal). x.cause) f ∙ m)
    | inr r ↦ inr (front_err read front i d ds e r ∙ ap Err (sym f))
  ]
]

-- the item at a place is the next one
pub moved : {A : Type 0} (read : Data → Read A) (front : List A) (i : ℕ) (vs : List Value) (v : Value) → i < length vs → v ≡ get_or vs i v
    → with_front front (each_from read i (items_view (drop i vs)))
    ≡ with_front front (each_from read i (item (view v) (items_view (drop (suc i) vs))))
moved read front i vs v lt is =
    ap (λ ds. with_front front (each_from read i ds)) (next_item vs i v lt)
    ∙ ap (λ (x : Value). with_front front (each_from read i (item (view x) (items_view (drop (suc i) vs))))) (sym is)

pub drop-all : {A : Type 0} (i : ℕ) (vs : List A) → length vs ≤ i → drop i vs ≡ []
drop-all zero [] h = refl
drop-all zero (v ∷ vs) h = absurd (omega arith)
drop-all (suc i) [] h = refl
drop-all (suc i) (v ∷ vs) h = drop-all i vs (omega arith)

-- a list has as many items as its view
pub counts : (vs : List Value) → items_len (items_view vs) ≡ length vs
counts = items_len-items_view
