-- Reading one after another.
use Rattle.std.proofs.Common.{◌≡◌, ℕ, inl, inr, List, [], ◌∷◌, ◌++◌, append_assoc, Option, Result, Ok, Err, refl, subst, sym, ap}
use Rattle.std.proofs.lemmas.List.{append-nil}
use Rattle.scenario_reading.specs.Order.{Given, Order, ends, asks, ◌>>=◌, MayGive, Reads, AsksFor}
use Rattle.scenario_reading.specs.Following.{Follows}
use Rattle.scenario_reading.specs.declared.refusal.Refusal.{Refusal}
use Rattle.scenario_reading.specs.declared.unread.Unread.{Unread}
use Rattle.scenario_reading.specs.declared.unread.Unread.TheVariants.{FileFault, Refused, OutOfMemory}

pub ok_same : {A E : Type 0} (x y : A) → ◌≡◌ {A = Result A E} (Ok x) (Ok y) → x ≡ y
ok_same x y e = cc

err_same : {A E : Type 0} (x y : E) → ◌≡◌ {A = Result A E} (Err x) (Err y) → x ≡ y
err_same x y e = cc

pub ok_not_err : {A E : Type 0} (x : A) (y : E) → ◌≡◌ {A = Result A E} (Ok x) (Err y) → ⊥
ok_not_err x y e = cc

-- what is read first, and then what is read by it
pub reads_then : {A B : Type 0} (content : List ℕ → Option (List ℕ)) (order : Order A) (next : A → Order B) (x : A) (end : Result B Refusal)
    → Reads content order (Ok x) → Reads content (next x) end → Reads content (order >>= next) end
reads_then content (ends (Ok y)) next x end first rest =
    let P : _ → Type 0 = λ z. Reads content (next z) end in subst P (ok_same x y first) rest
reads_then content (ends (Err r)) next x end first rest = absurd (ok_not_err x r first)
reads_then content (asks path go) next x end first rest =
    (first.0, (first.1.0, reads_then content (go first.0) next x end first.1.1 rest))

-- what is read first, where what is read by it is read
pub reads_parts : {A B : Type 0} (content : List ℕ → Option (List ℕ)) (order : Order A) (next : A → Order B) (y : B)
    → Reads content (order >>= next) (Ok y) → (x : A) × (Reads content order (Ok x) × Reads content (next x) (Ok y))
reads_parts content (ends (Ok x)) next y read = (x, (refl, read))
reads_parts content (ends (Err r)) next y read = absurd (ok_not_err y r read)
reads_parts content (asks path go) next y read =
    let rest = reads_parts content (go read.0) next y read.1.1 in
    (rest.0, ((read.0, (read.1.0, rest.1.0)), rest.1.1))

-- a refusal stands, whatever would be read after it
pub reads_refused : {A B : Type 0} (content : List ℕ → Option (List ℕ)) (order : Order A) (next : A → Order B) (r : Refusal)
    → Reads content order (Err r) → Reads content (order >>= next) (Err r)
reads_refused content (ends (Ok y)) next r first = absurd (ok_not_err y r (sym first))
reads_refused content (ends (Err s)) next r first = ap Err (err_same r s first)
reads_refused content (asks path go) next r first = (first.0, (first.1.0, reads_refused content (go first.0) next r first.1.1))

-- what is asked for first
pub asks_first : {A B : Type 0} (content : List ℕ → Option (List ℕ)) (order : Order A) (next : A → Order B) (path : List ℕ)
    → AsksFor content order path → AsksFor content (order >>= next) path
asks_first content (ends end) next path first = absurd first
asks_first content (asks p go) next path first = elim first [
  | inl here ↦ inl here
  | inr later ↦ inr (later.0, (later.1.0, asks_first content (go later.0) next path later.1.1))
]

-- what is asked for after what was read
pub asks_then : {A B : Type 0} (content : List ℕ → Option (List ℕ)) (order : Order A) (next : A → Order B) (x : A) (path : List ℕ)
    → Reads content order (Ok x) → AsksFor content (next x) path → AsksFor content (order >>= next) path
asks_then content (ends (Ok y)) next x path first rest =
    let P : _ → Type 0 = λ z. AsksFor content (next z) path in subst P (ok_same x y first) rest
asks_then content (ends (Err r)) next x path first rest = absurd (ok_not_err x r first)
asks_then content (asks p go) next x path first rest =
    inr (first.0, (first.1.0, asks_then content (go first.0) next x path first.1.1 rest))

-- ---- the same content

may_give_same : (c d : Option (List ℕ)) (given : Given) → c ≡ d → MayGive c given → MayGive d given
may_give_same c d given e may = let P : Option (List ℕ) → Type 0 = λ o. MayGive o given in subst P e may

pub reads_same : {A : Type 0} (c d : List ℕ → Option (List ℕ)) (order : Order A) (end : Result A Refusal)
    → ((path : List ℕ) → c path ≡ d path) → Reads c order end → Reads d order end
reads_same c d (ends e) end same read = read
reads_same c d (asks path go) end same read =
    (read.0, (may_give_same (c path) (d path) read.0 (same path) read.1.0, reads_same c d (go read.0) end same read.1.1))

asks_same : {A : Type 0} (c d : List ℕ → Option (List ℕ)) (order : Order A) (path : List ℕ)
    → ((p : List ℕ) → c p ≡ d p) → AsksFor c order path → AsksFor d order path
asks_same c d (ends e) path same asked = absurd asked
asks_same c d (asks p go) path same asked = elim asked [
  | inl here ↦ inl here
  | inr later ↦ inr (later.0, (may_give_same (c p) (d p) later.0 (same p) later.1.0, asks_same c d (go later.0) path same later.1.1))
]

-- what follows an order over one content follows it over an equal one
pub follows_same : {X A : Type 0} (seen : X → A) (c d : List ℕ → Option (List ℕ)) (order : Order A) (result : Result X Unread)
    → ((path : List ℕ) → c path ≡ d path) → Follows seen c order result → Follows seen d order result
follows_same seen c d order (Ok x) same follows = reads_same c d order (Ok (seen x)) same follows
follows_same seen c d order (Err (Refused r)) same follows = reads_same c d order (Err r) same follows
follows_same seen c d order (Err (FileFault path)) same follows = asks_same c d order path same follows
follows_same seen c d order (Err OutOfMemory) same follows = tt

-- ---- a list that is read item by item

-- how the reading of a list goes on behind these first items is how it goes as a whole
pub record Continues {A : Type 0} (content : List ℕ → Option (List ℕ)) (whole rest : Order (List A)) (front : List A) : Type 0 where
  pub ok : (xs : List A) → Reads content rest (Ok xs) → Reads content whole (Ok (front ++ xs))
  pub refused : (r : Refusal) → Reads content rest (Err r) → Reads content whole (Err r)
  pub asks : (path : List ℕ) → AsksFor content rest path → AsksFor content whole path

-- one item, and then the others
abbrev pub item_then : {A : Type 0} → Order A → Order (List A) → Order (List A)
item_then first others = first >>= λ x. others >>= λ xs. ends (Ok (x ∷ xs))

pub goes_on : {A : Type 0} (content : List ℕ → Option (List ℕ)) (whole others : Order (List A)) (first : Order A) (front : List A) (x : A)
    → Continues content whole (item_then first others) front → Reads content first (Ok x) → Continues content whole others (front ++ x ∷ [])
goes_on content whole others first front x so_far read = record {
  ok = λ xs rest.
      let all = so_far.ok (x ∷ xs) (reads_then content first _ x (Ok (x ∷ xs)) read (reads_then content others _ xs (Ok (x ∷ xs)) rest refl)) in
      let P : List _ → Type 0 = λ l. Reads content whole (Ok l) in
      subst P (sym (append_assoc front (x ∷ []) xs)) all;
  refused = λ r rest. so_far.refused r (reads_then content first _ x (Err r) read (reads_refused content others _ r rest));
  asks = λ path rest. so_far.asks path (asks_then content first _ x path read (asks_first content others _ path rest));
}

-- an item that isn't read ends the reading of the list
pub ends_there : {A X Y : Type 0} (seen : X → A) (seen_all : Y → List A) (content : List ℕ → Option (List ℕ)) (whole others : Order (List A)) (first : Order A) (front : List A) (f : Unread)
    → Continues content whole (item_then first others) front → Follows seen content first (Err f) → Follows seen_all content whole (Err f)
ends_there seen seen_all content whole others first front (Refused r) so_far read = so_far.refused r (reads_refused content first _ r read)
ends_there seen seen_all content whole others first front (FileFault path) so_far read = so_far.asks path (asks_first content first _ path read)
ends_there seen seen_all content whole others first front OutOfMemory so_far read = tt

-- nothing is left
pub ends_well : {A : Type 0} (content : List ℕ → Option (List ℕ)) (whole : Order (List A)) (front : List A)
    → Continues content whole (ends (Ok [])) front → Reads content whole (Ok front)
ends_well content whole front so_far =
    let P : List _ → Type 0 = λ l. Reads content whole (Ok l) in subst P (append-nil front) (so_far.ok [] refl)

-- before the first item
pub begins : {A : Type 0} (content : List ℕ → Option (List ℕ)) (whole : Order (List A)) → Continues content whole whole []
begins content whole = record { ok = λ xs read. read; refused = λ r read. read; asks = λ path asked. asked }
