-- The steps in which a time is read give the time that the text spells.
use Rattle.std.proofs.Common.{◌≡◌, ℕ, zero, suc, ◌+◌, ◌*◌, ◌-◌, ◌/◌, ◌%◌, ◌^◌, ◌<◌, ◌==◌, Bool, cond, refl, ap, sym, subst, ◌∙◌, List, [], ◌∷◌, ◌++◌, length, take_while, drop, Option, Some, None, Result, Ok, Err, arith}
use Rattle.std.specs.Prelude.{option_and_then, nat_lt}
use Rattle.std.proofs.lemmas.Bool.{lt-ltb}
use Rattle.std.proofs.lemmas.Grind.{common_steps}
use Rattle.std.proofs.lemmas.Nat.{div-add-mod'}
use Rattle.std.proofs.Math.Nat.{pow-suc, mul-div_left, mul-mod_left}
use Rattle.helics_time.specs.declared.parse.TimeText.{TimeText}
use Rattle.helics_time.specs.declared.parse.TimeText.TheVariants.{NotWhole, TooLarge, NotANumber}
use Rattle.helics_time.specs.Spelled.{is_digit, number_after, number_of, nanoseconds, in_unit, time_of, fraction_of, after_fraction, after_spaces, unit_of}
use Rattle.helics_time.specs.Time.{max_time}
use Rattle.helics_time.specs.Steps.{tenth, part_of, with_part, whole_and_part, at_unit, steps_of}

places_pos : (k : ℕ) → 0 < 10 ^ k
places_pos zero = omega arith
places_pos (suc k) = omega (arith, pow-suc 10 k, places_pos k)

weigh : (n d P N A Z : ℕ) → A ≡ (10 * n + d) * P + N → Z ≡ (0 + d) * P + N → A ≡ n * (P * 10) + Z
weigh n d P N A Z a z = omega (arith, a, z)

-- the digits weigh by their places
after_is : (n : ℕ) (cs : List ℕ) → number_after n cs ≡ n * 10 ^ length cs + number_of cs
after_is n [] = omega arith
after_is n (c ∷ cs) =
    let P = 10 ^ length cs in
    let w : number_after (10 * n + (c - 48)) cs ≡ n * (P * 10) + number_after (0 + (c - 48)) cs =
    weigh n (c - 48) P (number_of cs) _ _ (after_is (10 * n + (c - 48)) cs) (after_is (0 + (c - 48)) cs) in
    w ∙ ap (λ (q : ℕ). n * q + number_after (0 + (c - 48)) cs) (sym (pow-suc 10 (length cs)))

after_append : (n : ℕ) (xs ys : List ℕ) → number_after n (xs ++ ys) ≡ number_after (number_after n xs) ys
after_append n [] ys = refl
after_append n (x ∷ xs) ys = after_append (10 * n + (x - 48)) xs ys

pub append_is : (xs ys : List ℕ) → number_of (xs ++ ys) ≡ number_of xs * 10 ^ length ys + number_of ys
append_is xs ys = after_append 0 xs ys ∙ after_is (number_of xs) ys

tenth_some : (n p : ℕ) → tenth n ≡ Some p → n ≡ p * 10
tenth_some n p e = grind (arith, common_steps)

tenth_none : (n m : ℕ) → tenth n ≡ None → n ≡ m * 10 → ⊥
tenth_none n m e h = grind (arith, common_steps)

scale_some : (unit d q p P N Z : ℕ) → d * unit + q ≡ p * 10 → N * unit ≡ q * P → Z ≡ (0 + d) * P + N → Z * unit ≡ p * (P * 10)
scale_some unit d q p P N Z s n z = omega (arith, n, ap (λ (x : ℕ). x * P) s, ap (λ (x : ℕ). x * unit) z)

some_step : (unit c q p : ℕ) (cs : List ℕ) → (c - 48) * unit + q ≡ p * 10 → number_of cs * unit ≡ q * 10 ^ length cs
    → number_of (c ∷ cs) * unit ≡ p * 10 ^ length (c ∷ cs)
some_step unit c q p cs s n =
    scale_some unit (c - 48) q p (10 ^ length cs) (number_of cs) _ s n (after_is (0 + (c - 48)) cs)
    ∙ ap (λ (x : ℕ). p * x) (sym (pow-suc 10 (length cs)))

-- a part that is whole
pub some_part : (unit : ℕ) (cs : List ℕ) (p : ℕ) → part_of unit cs ≡ Some p → number_of cs * unit ≡ p * 10 ^ length cs
some_part unit [] p e = let z : 0 ≡ p = cc in omega (arith, z)
some_part unit (c ∷ cs) p e = go (part_of unit cs) refl e (some_part unit cs)
  where
    go : (o : Option ℕ) → part_of unit cs ≡ o → option_and_then (λ later. tenth ((c - 48) * unit + later)) o ≡ Some p
        → ((q : ℕ) → part_of unit cs ≡ Some q → number_of cs * unit ≡ q * 10 ^ length cs)
        → number_of (c ∷ cs) * unit ≡ p * 10 ^ length (c ∷ cs)
    go None h k ih = cc
    go (Some q) h k ih = some_step unit c q p cs (tenth_some ((c - 48) * unit + q) p k) (ih q h)

cancel : (x y P : ℕ) → 0 < P → x * P ≡ y * P → x ≡ y
cancel x y P pos e = sym (mul-div_left x pos) ∙ (ap (λ (z : ℕ). z / P) e ∙ mul-div_left y pos)

scale_none : (a unit d m P N Z : ℕ) → Z ≡ (0 + d) * P + N → a * (P * 10) + Z * unit ≡ m * (P * 10) → (10 * a + d * unit) * P + N * unit ≡ (10 * m) * P
scale_none a unit d m P N Z z e = omega (arith, e, ap (λ (x : ℕ). x * unit) z)

-- a part that isn't whole, with any whole before it
pub none_part : (unit : ℕ) (cs : List ℕ) (a m : ℕ) → part_of unit cs ≡ None → a * 10 ^ length cs + number_of cs * unit ≡ m * 10 ^ length cs → ⊥
none_part unit [] a m e h = cc
none_part unit (c ∷ cs) a m e h = go (part_of unit cs) refl e (none_part unit cs)
  where
    below : (10 * a + (c - 48) * unit) * 10 ^ length cs + number_of cs * unit ≡ (10 * m) * 10 ^ length cs
    below = scale_none a unit (c - 48) m (10 ^ length cs) (number_of cs) _ (after_is (0 + (c - 48)) cs)
        (subst (λ (x : ℕ). a * x + number_of (c ∷ cs) * unit ≡ m * x) (pow-suc 10 (length cs)) h)

    go : (o : Option ℕ) → part_of unit cs ≡ o → option_and_then (λ later. tenth ((c - 48) * unit + later)) o ≡ None
        → ((b n : ℕ) → part_of unit cs ≡ None → b * 10 ^ length cs + number_of cs * unit ≡ n * 10 ^ length cs → ⊥)
        → ⊥
    go None q k ih = ih _ _ q below
    go (Some q) s k ih =
        let whole : ((10 * a + (c - 48) * unit) + q) * 10 ^ length cs ≡ (10 * m) * 10 ^ length cs = omega (arith, below, some_part unit cs q s) in
        let ten = cancel ((10 * a + (c - 48) * unit) + q) (10 * m) (10 ^ length cs) (places_pos (length cs)) whole in
        tenth_none ((c - 48) * unit + q) (m - a) k (omega (arith, ten))

abbrev pub checked : ℕ → ℕ → Result ℕ TimeText
checked s P = cond (nat_lt 0 (s % P)) (Err NotWhole) (cond (nat_lt max_time (s / P)) (Err TooLarge) (Ok (s / P)))

pub whole_case : (s P t : ℕ) → 0 < P → s ≡ t * P → checked s P ≡ cond (nat_lt max_time t) (Err TooLarge) (Ok t)
whole_case s P t pos e =
    ap (λ (x : ℕ). checked x P) e
    ∙ (ap (λ (x : ℕ). cond (nat_lt 0 x) (Err NotWhole) (cond (nat_lt max_time (t * P / P)) (Err TooLarge) (Ok (t * P / P)))) (mul-mod_left t P)
    ∙ ap (λ (x : ℕ). cond (nat_lt max_time x) (Err TooLarge) (Ok x)) (mul-div_left t pos))

open_case : (s P : ℕ) → ((m : ℕ) → s ≡ m * P → ⊥) → checked s P ≡ Err NotWhole
open_case s P h =
    let rest : 0 < s % P = grind (arith, h (s / P), div-add-mod' s P) in
    ap (λ (b : Bool). cond b (Err NotWhole) (cond (nat_lt max_time (s / P)) (Err TooLarge) (Ok (s / P)))) (lt-ltb 0 (s % P) rest)

spread : (w P N unit m : ℕ) → (w * P + N) * unit ≡ m * P → (w * unit) * P + N * unit ≡ m * P
spread w P N unit m e = omega (arith, e)

joined_part : (w P N unit p : ℕ) → N * unit ≡ p * P → (w * P + N) * unit ≡ (w * unit + p) * P
joined_part w P N unit p e = omega (arith, e)

-- the steps and the definition are one
pub same_number : (whole cs : List ℕ) (unit : ℕ) → whole_and_part whole cs unit ≡ nanoseconds whole cs unit
same_number whole cs unit = go (part_of unit cs) refl ∙ ap (λ (n : ℕ). checked (n * unit) (10 ^ length cs)) (sym (append_is whole cs))
  where
    go : (o : Option ℕ) → part_of unit cs ≡ o
        → with_part (number_of whole) unit o ≡ checked ((number_of whole * 10 ^ length cs + number_of cs) * unit) (10 ^ length cs)
    go None h = sym (open_case _ _ (λ m e. none_part unit cs (number_of whole * unit) m h (spread (number_of whole) (10 ^ length cs) (number_of cs) unit m e)))
    go (Some p) h = sym (whole_case _ (10 ^ length cs) (number_of whole * unit + p) (places_pos (length cs))
        (joined_part (number_of whole) (10 ^ length cs) (number_of cs) unit p (some_part unit cs p h)))

same_unit : (whole cs : List ℕ) (o : Option ℕ) → at_unit whole cs o ≡ in_unit whole cs o
same_unit whole cs None = refl
same_unit whole cs (Some unit) = same_number whole cs unit

pub same_time : (text : List ℕ) → steps_of text ≡ time_of text
unfolding steps_of time_of
same_time text =
    let whole = take_while is_digit text in
    let rest = drop (length whole) text in
    ap (λ (r : Result ℕ TimeText). cond (length whole == 0) (Err NotANumber) r)
    (same_unit whole (fraction_of rest) (unit_of (after_spaces (after_fraction rest))))
