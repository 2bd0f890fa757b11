-- A text that is split one character after another.
use Rattle.std.proofs.Common.{◌≡◌, ◌⊎◌, inl, inr, ◌∙◌, ℕ, suc, ◌<◌, ◌≤◌, ◌==◌, arith, true, false, List, [], ◌∷◌, ◌++◌, length, get_or, Option, Some, None, option_map, Result, Ok, Err, IfOk, eq-eqb, append_assoc, append-nil, ap, sym, subst, refl}
use Rattle.std.specs.Prelude.{unwrap_or}
use Rattle.std.specs.Char.{encode_utf8}
use Rattle.std.proofs.lemmas.Bool.Decides.{nat_tests}
use Rattle.std.proofs.lemmas.Bool.{cases_lt}
use Rattle.std.proofs.lemmas.Str.{encode_ascii, length-encode, len_utf8_bounds, inside_one}
use Rattle.hel_lists.specs.declared.memory.OutOfMemory.{OutOfMemory}
use Rattle.runner_config.specs.declared.splitting.SoFar.{SoFar}
use Rattle.runner_config.specs.Splitting.{is_gap, is_quote, Rest, all_of, behind_gap, behind, rest_of, word_bytes, longer, joined, goes_on}

-- a byte that is only a letter under this quote
abbrev pub IsLetter : Option ℕ → ℕ → Type 0
IsLetter None b = (is_gap b ≡ false) × (is_quote b ≡ false)
IsLetter (Some quote) b = (b == quote) ≡ false

one : (quote : Option ℕ) (b : ℕ) (rest : List ℕ) → IsLetter quote b → rest_of quote (b ∷ rest) ≡ option_map (behind (b ∷ [])) (rest_of quote rest)
one None b rest h = rw (h.0, h.1) refl
one (Some quote) b rest h = rw h refl

twice : (xs ys : List ℕ) (r : Option Rest) → option_map (behind xs) (option_map (behind ys) r) ≡ option_map (behind (xs ++ ys)) r
twice xs ys None = refl
twice xs ys (Some r) = ap (λ (w : List ℕ). Some (Some w, r.1)) (sym (append_assoc xs ys (unwrap_or r.0 [])))

letters : (quote : Option ℕ) (bs rest : List ℕ) → 0 < length bs → ((k : ℕ) → k < length bs → IsLetter quote (get_or bs k 0))
    → rest_of quote (bs ++ rest) ≡ option_map (behind bs) (rest_of quote rest)
letters quote [] rest some h = absurd (omega arith)
letters quote (b ∷ []) rest some h = one quote b rest (h 0 (omega arith))
letters quote (b ∷ d ∷ bs) rest some h =
    one quote b ((d ∷ bs) ++ rest) (h 0 (omega arith))
    ∙ ap (option_map (behind (b ∷ []))) (letters quote (d ∷ bs) rest (omega arith) (λ k lt. h (suc k) (omega arith)))
    ∙ twice (b ∷ []) (d ∷ bs) (rest_of quote rest)

-- a character that is only letters
pub letter_char : (quote : Option ℕ) (c : ℕ) (rest : List ℕ) → ((b : ℕ) → 128 ≤ b → IsLetter quote b) → IsLetter quote c
    → rest_of quote (encode_utf8 c ++ rest) ≡ option_map (behind (encode_utf8 c)) (rest_of quote rest)
letter_char quote c rest wide narrow = letters quote (encode_utf8 c) rest (omega (arith, length-encode c, len_utf8_bounds c)) each
  where
    by : (k : ℕ) → k < length (encode_utf8 c) → (get_or (encode_utf8 c) k 0 < 128) ⊎ (128 ≤ get_or (encode_utf8 c) k 0) → IsLetter quote (get_or (encode_utf8 c) k 0)
    by k lt (inl small) = subst (IsLetter quote) (inside_one c [] (encode_utf8 c) k (sym (append-nil (encode_utf8 c))) lt small) narrow
    by k lt (inr large) = wide _ large

    each : (k : ℕ) → k < length (encode_utf8 c) → IsLetter quote (get_or (encode_utf8 c) k 0)
    each k lt = by k lt (cases_lt (get_or (encode_utf8 c) k 0) 128)

pub wide_none : (b : ℕ) → 128 ≤ b → IsLetter None b
wide_none b h = (grind (arith, nat_tests), grind (arith, nat_tests))

pub wide_some : (quote b : ℕ) → quote < 128 → 128 ≤ b → IsLetter (Some quote) b
wide_some quote b small h = grind (arith, nat_tests)

join_behind : (word : Option (List ℕ)) (x : List ℕ) (r : Rest) → joined (longer word x) r ≡ joined word (behind x r)
join_behind None x r = refl
join_behind (Some word) x r = ap (λ (w : List ℕ). (Some w, r.1)) (append_assoc word x (unwrap_or r.0 []))

-- what went into the word goes on with it
pub letter_step : (words : List (List ℕ)) (word later : Option (List ℕ)) (x : List ℕ) (r before : Option Rest)
    → later ≡ longer word x → before ≡ option_map (behind x) r
    → option_map (λ rest. words ++ all_of (joined later rest)) r ≡ option_map (λ rest. words ++ all_of (joined word rest)) before
letter_step words word later x r before e known = rw (e, known) (go r)
  where
    go : (r : Option Rest) → option_map (λ rest. words ++ all_of (joined (longer word x) rest)) r ≡ option_map (λ rest. words ++ all_of (joined word rest)) (option_map (behind x) r)
    go None = refl
    go (Some y) = ap (λ (z : Rest). Some (words ++ all_of z)) (join_behind word x y)

-- a word that ended goes to the others
pub gap_step : (words later : List (List ℕ)) (word : Option (List ℕ)) (r before : Option Rest)
    → later ≡ words ++ all_of (word, []) → before ≡ option_map behind_gap r
    → option_map (λ rest. later ++ all_of (joined None rest)) r ≡ option_map (λ rest. words ++ all_of (joined word rest)) before
gap_step words later word r before e known = rw (e, known) (go word r)
  where
    go : (word : Option (List ℕ)) (r : Option Rest) → option_map (λ rest. (words ++ all_of (word, [])) ++ all_of (joined None rest)) r ≡ option_map (λ rest. words ++ all_of (joined word rest)) (option_map behind_gap r)
    go w None = refl
    go None (Some y) = ap (λ (ws : List (List ℕ)). Some (ws ++ all_of y)) (append-nil words)
    go (Some w) (Some y) =
        ap Some (append_assoc words (w ∷ []) (all_of y))
        ∙ ap (λ (v : List ℕ). Some (words ++ v ∷ all_of y)) (sym (append-nil w))

pub quote_small : (c : ℕ) → is_quote c ≡ true → c < 128
quote_small c h = grind (arith, nat_tests)

gap_small : (c : ℕ) → is_gap c ≡ true → c < 128
gap_small c h = grind (arith, nat_tests)

pub closes : (quote c : ℕ) (rest : List ℕ) → quote < 128 → c ≡ quote → rest_of (Some quote) (encode_utf8 c ++ rest) ≡ option_map (behind []) (rest_of None rest)
closes quote c rest small e =
    let same : (c == quote) ≡ true = eq-eqb c quote e in
    let one_byte : encode_utf8 c ≡ c ∷ [] = encode_ascii c (omega (arith, e, small)) in
    rw (one_byte, same) refl

pub opens : (c : ℕ) (rest : List ℕ) → is_gap c ≡ false → is_quote c ≡ true → rest_of None (encode_utf8 c ++ rest) ≡ option_map (behind []) (rest_of (Some c) rest)
opens c rest no_gap h = rw (encode_ascii c (quote_small c h), no_gap, h) refl

pub parts : (c : ℕ) (rest : List ℕ) → is_gap c ≡ true → rest_of None (encode_utf8 c ++ rest) ≡ option_map behind_gap (rest_of None rest)
parts c rest h = rw (encode_ascii c (gap_small c h), h) refl

-- ---- the steps of the code

pub letter_ok : (self : SoFar) (c : ℕ) (x : List ℕ) (quote : Option ℕ) (r : Result SoFar OutOfMemory)
    → IfOk r (λ s. s.words ≡ self.words) → IfOk r (λ s. word_bytes s.word ≡ longer (word_bytes self.word) x) → IfOk r (λ s. s.quote ≡ quote)
    → ((rest : List ℕ) → rest_of self.quote (encode_utf8 c ++ rest) ≡ option_map (behind x) (rest_of quote rest))
    → IfOk r (λ s. (rest : List ℕ) → goes_on s rest ≡ goes_on self (encode_utf8 c ++ rest))
letter_ok self c x quote (Err e) words word kept known = tt
letter_ok self c x quote (Ok s) words word kept known =
    λ rest. rw (words, kept) (letter_step self.words (word_bytes self.word) (word_bytes s.word) x (rest_of quote rest) (rest_of self.quote (encode_utf8 c ++ rest)) word (known rest))

pub gap_ok : (self : SoFar) (c : ℕ) (r : Result SoFar OutOfMemory)
    → IfOk r (λ s. s.words ≡ self.words ++ all_of (word_bytes self.word, [])) → IfOk r (λ s. s.word ≡ None) → IfOk r (λ s. s.quote ≡ self.quote)
    → ((rest : List ℕ) → rest_of self.quote (encode_utf8 c ++ rest) ≡ option_map behind_gap (rest_of self.quote rest))
    → IfOk r (λ s. (rest : List ℕ) → goes_on s rest ≡ goes_on self (encode_utf8 c ++ rest))
gap_ok self c (Err e) words word kept known = tt
gap_ok self c (Ok s) words word kept known =
    λ rest. rw (word, kept) (gap_step self.words s.words (word_bytes self.word) (rest_of self.quote rest) (rest_of self.quote (encode_utf8 c ++ rest)) words (known rest))
