-- Actions that are read one after another.
use Rattle.std.proofs.Common.{◌≡◌, ℕ, zero, suc, ◌+◌, ◌-◌, ◌<◌, ◌⊎◌, inl, inr, arith, refl, ap, sym, ◌∙◌, List, ◌∷◌, ◌++◌, length, drop, get_or, Ok, Err, append_assoc, decimal}
use Rattle.std.specs.Prelude.{nat_lt, flat_map}
use Rattle.std.proofs.lemmas.List.{append-nil}
use Rattle.serde_json.specs.Data.{Data, Items, no_items, item}
use Rattle.serde_json.specs.View.{view, items_view}
use Rattle.serde_json.specs.declared.value.Value.{Value}
use Rattle.fed_script.specs.declared.word.Word.{Word}
use Rattle.json_reading.specs.Reading.{Read, ◌>>=◌, below, under, each_from, Stands}
use Rattle.json_reading.specs.declared.refusal.ConfigRefusal.{ConfigRefusal}
use Rattle.json_reading.specs.declared.refusal.ConfigCause.TheVariants.{OutOfMemory}
use Rattle.json_reading.proofs.Fronts.{next_item}
use Rattle.fed_config.specs.Scripts.{Known, action_of, joined, words_in, body_of}

-- the body of a repeat is one level down
pub body_step : (known : Known) (left : ℕ) (d : Data) → 0 < left
    → body_of known left d ≡ words_in (action_of known (nat_lt 0 (left - 1)) (body_of known (left - 1))) d
unfolding body_of
body_step known zero d h = absurd (omega arith)
body_step known (suc left) d h =
    let e : left ≡ suc left - 1 = omega arith in
    ap (λ (n : ℕ). words_in (action_of known (nat_lt 0 n) (body_of known n)) d) e

-- words that go on behind those that have been read
abbrev pub with_words : List Word → Read (List Word) → Read (List Word)
with_words front read = read >>= λ others. Ok (front ++ others)

-- the words of actions, the first at this place
abbrev pub words_from : (Data → Read (List Word)) → ℕ → Items → Read (List Word)
words_from read place items = joined (each_from read place items)

go_on : (front first : List Word) (r : Read (List (List Word)))
    → with_words front (joined (r >>= λ parts. Ok (first ∷ parts))) ≡ with_words (front ++ first) (joined r)
go_on front first (Ok parts) = ap Ok (sym (append_assoc front first (flat_map (λ part. part) parts)))
go_on front first (Err e) = refl

-- one action that is read
pub words_ok : (read : Data → Read (List Word)) (front : List Word) (i : ℕ) (d : Data) (ds : Items) (first : List Word) → read d ≡ Ok first
    → with_words front (words_from read i (item d ds)) ≡ with_words (front ++ first) (words_from read (i + 1) ds)
unfolding each_from
words_ok read front i d ds first e =
    ap (λ r. with_words front (joined (under (decimal i) r >>= λ first. each_from read (i + 1) ds >>= λ parts. Ok (first ∷ parts)))) e
    ∙ go_on front first (each_from read (i + 1) ds)

-- one that is refused
pub words_err : (read : Data → Read (List Word)) (front : List Word) (i : ℕ) (d : Data) (ds : Items) (e : ConfigRefusal) → read d ≡ Err e
    → with_words front (words_from read i (item d ds)) ≡ Err (below (decimal i) e)
unfolding each_from
words_err read front i d ds e refused =
    ap (λ r. with_words front (joined (under (decimal i) r >>= λ first. each_from read (i + 1) ds >>= λ parts. Ok (first ∷ parts)))) refused

-- no more actions
pub words_end : (read : Data → Read (List Word)) (front : List Word) (i : ℕ) → with_words front (words_from read i no_items) ≡ Ok front
unfolding each_from
words_end read front i = ap Ok (append-nil front)

-- what stands for a refused action stands for the list
pub words_stop : (read : Data → Read (List Word)) (front : List Word) (i : ℕ) (d : Data) (ds : Items) (e b : ConfigRefusal)
    → (e.cause ≡ OutOfMemory) ⊎ (read d ≡ Err e) → Stands b (below (decimal i) e)
    → (b.cause ≡ OutOfMemory) ⊎ (with_words front (words_from read i (item d ds)) ≡ Err b)
words_stop read front i d ds e b told stands = elim stands [
  | inl m ↦ inl (ap (λ (x : ConfigRefusal). x.cause) m)
  | inr f ↦ elim told [
    | inl m ↦ inl (ap (λ (x : ConfigRefusal). x.cause) f ∙ m)
    | inr r ↦ inr (words_err read front i d ds e r ∙ ap Err (sym f))
  ]
]

-- the action at a place is the next one
pub moved : (read : Data → Read (List Word)) (front : List Word) (i : ℕ) (vs : List Value) (v : Value) → i < length vs → v ≡ get_or vs i v
    → with_words front (words_from read i (items_view (drop i vs)))
    ≡ with_words front (words_from read i (item (view v) (items_view (drop (suc i) vs))))
moved read front i vs v lt is =
    ap (λ ds. with_words front (words_from read i ds)) (next_item vs i v lt)
    ∙ ap (λ (x : Value). with_words front (words_from read i (item (view x) (items_view (drop (suc i) vs))))) (sym is)
