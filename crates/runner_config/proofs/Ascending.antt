-- Entries in the order of their places.
use Rattle.std.proofs.Common.{◌≡◌, ℕ, zero, suc, ◌+◌, ◌<◌, arith, List, [], ◌∷◌, ◌++◌, map, not, get_or}
use Rattle.std.specs.Prelude.{All, AllPairs}
use Rattle.std.proofs.lemmas.List.Elements.{All-push, All-weaker, All-map}
use Rattle.std.proofs.lemmas.List.Quantifiers.{all_pairs_push}
use Rattle.std.proofs.lemmas.List.Kept.{AllPairs-cons, AllPairs-filter}
use Rattle.runner_config.specs.declared.entries.Listed.{Listed}
use Rattle.runner_config.specs.declared.reading.Entry.{Entry}
use Rattle.runner_config.specs.declared.shape.TreeText.{TreeText}
use Rattle.runner_config.specs.Entries.{AreInOrder}
use Rattle.runner_config.specs.Runner.{is_broker_listed, federates_of, entry_in, InOrder}

-- all places are below this one
abbrev pub AreBelow : ℕ → List Listed → Type 0
AreBelow place entries = All (λ (e : Listed). e.place < place) entries

-- one more entry, at the next place
pub push_below : (place : ℕ) (entries : List Listed) (e : Listed) → e.place ≡ place → AreBelow place entries → AreBelow (place + 1) (entries ++ e ∷ [])
push_below place entries e at below =
    All-push (λ (x : Listed). x.place < place + 1) entries e
    (All-weaker (λ (x : Listed). x.place < place) (λ (x : Listed). x.place < place + 1) (λ x lt. omega arith) entries below) (omega arith)

pub push_entry : (place : ℕ) (entries : List Listed) (e : Listed) → e.place ≡ place → AreBelow place entries → AreInOrder entries → AreInOrder (entries ++ e ∷ [])
push_entry place entries e at below before =
    all_pairs_push (λ (x y : Listed). x.place < y.place) entries e before
    (λ k d within. let lt : (get_or entries k d).place < place = below k d within in omega arith)

all_pairs_map : {A B : Type 0} (R : B → B → Type 0) (f : A → B) (xs : List A) → AllPairs (λ x y. R (f x) (f y)) xs → AllPairs R (map f xs)
all_pairs_map R f [] h = λ i j d lt within. absurd (omega arith)
all_pairs_map R f (x ∷ xs) h =
    AllPairs-cons R (f x) (map f xs)
    (All-map (R (f x)) f xs (λ k d within. h zero (suc k) d (omega arith) (omega arith)))
    (all_pairs_map R f xs (λ i j d lt within. h (suc i) (suc j) d (omega arith) (omega arith)))

-- the federates among entries keep their order
pub federates_in_order : (t : TreeText) (entries : List Listed) → AreInOrder entries → InOrder (map (entry_in t) (federates_of entries))
federates_in_order t entries h =
    all_pairs_map (λ (x y : Entry). x.place < y.place) (entry_in t) (federates_of entries)
    (AllPairs-filter (λ (x y : Listed). x.place < y.place) (λ (e : Listed). not (is_broker_listed e)) entries h)
