-- What is printed is read back.
use Rattle.std.proofs.Common.{◌≡◌, ℕ, zero, suc, ◌+◌, ◌*◌, ◌-◌, ◌/◌, ◌%◌, ◌^◌, ◌<◌, ◌≤◌, ◌==◌, ◌&&◌, Bool, true, false, cond, refl, ap, sym, ◌∙◌, List, [], ◌∷◌, ◌++◌, length, take_while, drop, decimal, replicate, Ok, Err, arith, rules}
use Rattle.std.specs.Str.{all_ascii_digits}
use Rattle.std.proofs.lemmas.Bool.{le-ltb, ne_eqb}
use Rattle.std.proofs.lemmas.List.{length-append, append-nil, drop_all, length-replicate}
use Rattle.std.proofs.lemmas.List.Sums.{take_while-cons}
use Rattle.std.proofs.lemmas.Str.Parse.{tells_all_ascii_digits, numerals_by_fold, IsNumeralModel}
use Rattle.std.proofs.lemmas.Fmt.{digits_decimal, digits_value-decimal, length-decimal-le, decimal_nonempty}
use Rattle.std.proofs.lemmas.Nat.{div-add-mod'}
use Rattle.std.proofs.Math.Seq.{drop-append_seam}
use Rattle.helics_time.specs.declared.parse.TimeText.TheVariants.{NotANumber, TooLarge}
use Rattle.helics_time.specs.Time.{max_time, nine_digits, time_text}
use Rattle.helics_time.specs.Spelled.{is_digit, number_after, number_of, nanoseconds, in_unit, time_of, fraction_of, after_fraction, after_spaces, unit_of}
use Rattle.helics_time.proofs.SpelledSteps.{append_is, whole_case}

own : IsNumeralModel (λ ds. all_ascii_digits ds ≡ true) (number_after 0)
own = numerals_by_fold (λ ds. all_ascii_digits ds ≡ true) tells_all_ascii_digits number_after (search rules)

both : (a b : Bool) → (a && b) ≡ true → (a ≡ true) × (b ≡ true)
both true b h = (refl, h)
both false b h = cc

-- digits, and then something else
digits_run : (xs ys : List ℕ) → all_ascii_digits xs ≡ true → take_while is_digit ys ≡ [] → take_while is_digit (xs ++ ys) ≡ xs
digits_run [] ys h stop = stop
digits_run (x ∷ xs) ys h stop =
    let hs = both (is_digit x) (all_ascii_digits xs) h in
    take_while-cons is_digit x (xs ++ ys)
    ∙ (ap (λ (b : Bool). cond b (x ∷ take_while is_digit (xs ++ ys)) []) hs.0 ∙ ap (λ (zs : List ℕ). x ∷ zs) (digits_run xs ys hs.1 stop))

zeros_digits : (k : ℕ) (ds : List ℕ) → all_ascii_digits ds ≡ true → all_ascii_digits (replicate k 48 ++ ds) ≡ true
zeros_digits zero ds h = h
zeros_digits (suc k) ds h = zeros_digits k ds h

zeros_number : (k : ℕ) (ds : List ℕ) → number_of (replicate k 48 ++ ds) ≡ number_of ds
zeros_number zero ds = refl
zeros_number (suc k) ds = zeros_number k ds

nine_is : (f : ℕ) → f < 1000000000 → all_ascii_digits (nine_digits f) ≡ true
nine_is f lt = zeros_digits (9 - length (decimal f)) (decimal f) (digits_decimal own f (omega arith))

nine_number : (f : ℕ) → f < 1000000000 → number_of (nine_digits f) ≡ f
nine_number f lt = zeros_number (9 - length (decimal f)) (decimal f) ∙ digits_value-decimal own f (omega arith)

nine_length : (f : ℕ) → f < 1000000000 → length (nine_digits f) ≡ 9
nine_length f lt = omega (arith, length-append (replicate (9 - length (decimal f)) 48) (decimal f), length-replicate {A = ℕ} (9 - length (decimal f)) 48, length-decimal-le 9 f (omega arith) (omega arith) (omega arith))

drop_exact : (xs ys : List ℕ) (n : ℕ) → n ≡ length xs → drop n (xs ++ ys) ≡ ys
drop_exact xs ys n e = ap (λ (k : ℕ). drop k (xs ++ ys)) e ∙ drop-append_seam xs ys

-- what follows nine digits behind a point: nothing
after_nine : (f : ℕ) → f < 1000000000 → fraction_of (46 ∷ nine_digits f) ≡ nine_digits f
after_nine f lt =
    ap (λ (zs : List ℕ). take_while is_digit zs) (sym (append-nil (nine_digits f))) ∙ digits_run (nine_digits f) [] (nine_is f lt) refl

nothing_after : (f : ℕ) → f < 1000000000 → after_fraction (46 ∷ nine_digits f) ≡ []
nothing_after f lt =
    let e = after_nine f lt in
    let n : length (fraction_of (46 ∷ nine_digits f)) ≡ 9 = ap (λ (zs : List ℕ). length zs) e ∙ nine_length f lt in
    ap (λ (k : ℕ). cond (k == 0) (46 ∷ nine_digits f) (drop (1 + k) (46 ∷ nine_digits f))) n
    ∙ drop_all 9 (nine_digits f) (omega (arith, nine_length f lt))

-- the parts that are read of a number, a point and nine digits
read_parts : (s f : ℕ) → s < 2 ^ 64 → f < 1000000000
    → time_of (decimal s ++ 46 ∷ nine_digits f) ≡ nanoseconds (decimal s) (nine_digits f) 1000000000
unfolding time_of
read_parts s f small lt =
    let point : List ℕ = 46 ∷ nine_digits f in
    let text : List ℕ = decimal s ++ point in
    let whole : take_while is_digit text ≡ decimal s = digits_run (decimal s) point (digits_decimal own s small) (take_while-cons is_digit 46 (nine_digits f)) in
    let rest : drop (length (take_while is_digit text)) text ≡ point = drop_exact (decimal s) point _ (ap (λ (zs : List ℕ). length zs) whole) in
    let some : (length (take_while is_digit text) == 0) ≡ false =
    ap (λ (zs : List ℕ). length zs == 0) whole ∙ ne_eqb (length (decimal s)) 0 (λ z. absurd (omega (arith, z, decimal_nonempty s small))) in
    ap (λ (b : Bool). cond b (Err NotANumber) (in_unit (take_while is_digit text) (fraction_of (drop (length (take_while is_digit text)) text))
    (unit_of (after_spaces (after_fraction (drop (length (take_while is_digit text)) text)))))) some
    ∙ (ap (λ (zs : List ℕ). in_unit (take_while is_digit text) (fraction_of zs) (unit_of (after_spaces (after_fraction zs)))) rest
    ∙ (ap (λ (zs : List ℕ). in_unit zs (fraction_of point) (unit_of (after_spaces (after_fraction point)))) whole
    ∙ (ap (λ (zs : List ℕ). in_unit (decimal s) zs (unit_of (after_spaces (after_fraction point)))) (after_nine f lt)
    ∙ ap (λ (zs : List ℕ). in_unit (decimal s) (nine_digits f) (unit_of (after_spaces zs))) (nothing_after f lt))))

-- and their number
read_number : (s f : ℕ) → s < 2 ^ 64 → f < 1000000000 → s * 1000000000 + f ≤ max_time
    → nanoseconds (decimal s) (nine_digits f) 1000000000 ≡ Ok (s * 1000000000 + f)
read_number s f small lt fits =
    let n : number_of (decimal s ++ nine_digits f) ≡ s * 1000000000 + f =
    append_is (decimal s) (nine_digits f)
    ∙ (ap (λ (k : ℕ). number_of (decimal s) * 10 ^ k + number_of (nine_digits f)) (nine_length f lt)
    ∙ (ap (λ (k : ℕ). k * 1000000000 + number_of (nine_digits f)) (digits_value-decimal own s small)
    ∙ ap (λ (k : ℕ). s * 1000000000 + k) (nine_number f lt))) in
    whole_case (number_of (decimal s ++ nine_digits f) * 1000000000) (10 ^ length (nine_digits f)) (s * 1000000000 + f)
    (rw (nine_length f lt) (omega arith)) (rw (nine_length f lt) (ap (λ (k : ℕ). k * 1000000000) n))
    ∙ ap (λ (b : Bool). cond b (Err TooLarge) (Ok (s * 1000000000 + f))) (le-ltb max_time (s * 1000000000 + f) fits)

pub reads_back : (t : ℕ) → t ≤ max_time → time_of (time_text t) ≡ Ok t
reads_back t h =
    read_parts (t / 1000000000) (t % 1000000000) (omega arith) (omega arith)
    ∙ (read_number (t / 1000000000) (t % 1000000000) (omega arith) (omega arith) (omega (arith, div-add-mod' t 1000000000))
    ∙ ap Ok (div-add-mod' t 1000000000))
