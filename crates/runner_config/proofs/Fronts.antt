-- Entries that are read one after another.
use Rattle.std.proofs.Common.{◌≡◌, ◌∙◌, ◌⊎◌, inl, inr, ℕ, ◌+◌, suc, ◌<◌, Bool, ◌||◌, List, [], ◌∷◌, ◌++◌, length, drop, get_or, drop-cons, Ok, Err, append_assoc, append-nil, ap, sym, refl}
use Rattle.serde_json.specs.Data.{Data, Items, no_items, item}
use Rattle.serde_json.specs.View.{view, items_view}
use Rattle.serde_json.specs.declared.value.Value.{Value}
use Rattle.json_reading.specs.Reading.{◌>>=◌}
use Rattle.runner_config.specs.declared.refusal.RunnerRefusal.{RunnerRefusal}
use Rattle.runner_config.specs.declared.refusal.RunnerRefusal.TheVariants.{OutOfMemory}
use Rattle.runner_config.specs.declared.entries.Listed.{Listed}
use Rattle.runner_config.specs.Told.{Told}
use Rattle.runner_config.specs.Counts.{is_broker}
use Rattle.runner_config.specs.Entries.{single_entry, entries_from}

-- entries that go on behind those that have been read
abbrev pub with_front : List Listed → Told (List Listed) → Told (List Listed)
with_front front told = told >>= λ xs. Ok (front ++ xs)

go_on : (front : List Listed) (e : Listed) (r : Told (List Listed)) → with_front front (r >>= λ xs. Ok (e ∷ xs)) ≡ with_front (front ++ e ∷ []) r
go_on front e (Ok xs) = ap Ok (sym (append_assoc front (e ∷ []) xs))
go_on front e (Err r) = refl

-- one entry that is read
next_entry : (met : Bool) (front : List Listed) (place : ℕ) (d : Data) (ds : Items) (e : Listed) → single_entry met place d ≡ Ok e
    → with_front front (entries_from met place (item d ds)) ≡ with_front (front ++ e ∷ []) (entries_from (met || is_broker e.words) (place + 1) ds)
unfolding entries_from
next_entry met front place d ds e read =
    ap (λ r. with_front front (r >>= λ e. entries_from (met || is_broker e.words) (place + 1) ds >>= λ es. Ok (e ∷ es))) read
    ∙ go_on front e (entries_from (met || is_broker e.words) (place + 1) ds)

-- one that is refused
refused_entry : (met : Bool) (front : List Listed) (place : ℕ) (d : Data) (ds : Items) (r : RunnerRefusal) → single_entry met place d ≡ Err r
    → with_front front (entries_from met place (item d ds)) ≡ Err r
unfolding entries_from
refused_entry met front place d ds r read =
    ap (λ r. with_front front (r >>= λ e. entries_from (met || is_broker e.words) (place + 1) ds >>= λ es. Ok (e ∷ es))) read

-- the same, where this entry is the next and all goes on so
pub kept : (met : Bool) (front : List Listed) (place : ℕ) (d : Data) (ds : Items) (e : Listed) (left : Items) (all : Told (List Listed))
    → left ≡ item d ds → with_front front (entries_from met place left) ≡ all → single_entry met place d ≡ Ok e
    → with_front (front ++ e ∷ []) (entries_from (met || is_broker e.words) (place + 1) ds) ≡ all
kept met front place d ds e left all next whole read =
    sym (next_entry met front place d ds e read)
    ∙ ap (λ (us : Items). with_front front (entries_from met place us)) (sym next)
    ∙ whole

pub stopped : (met : Bool) (front : List Listed) (place : ℕ) (d : Data) (ds : Items) (r : RunnerRefusal) (left : Items) (all : Told (List Listed))
    → left ≡ item d ds → with_front front (entries_from met place left) ≡ all → (r ≡ OutOfMemory) ⊎ (single_entry met place d ≡ Err r)
    → (r ≡ OutOfMemory) ⊎ (all ≡ Err r)
stopped met front place d ds r left all next whole (inl memory) = inl memory
stopped met front place d ds r left all next whole (inr read) =
    inr (sym whole ∙ ap (λ (us : Items). with_front front (entries_from met place us)) next ∙ refused_entry met front place d ds r read)

-- no more entries
pub entries_end : (met : Bool) (front : List Listed) (place : ℕ) → with_front front (entries_from met place no_items) ≡ Ok front
unfolding entries_from
entries_end met front place = ap Ok (append-nil front)

-- the value at a place is the next one
pub next_value : (vs : List Value) (i : ℕ) (v : Value) → i < length vs → v ≡ get_or vs i v → items_view (drop i vs) ≡ item (view v) (items_view (drop (suc i) vs))
next_value vs i v lt is =
    ap items_view (drop-cons vs i v lt) ∙ ap (λ (x : Value). item (view x) (items_view (drop (suc i) vs))) (sym is)
