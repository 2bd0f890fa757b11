-- What is read within bounds is within them.
use Rattle.std.proofs.Common.{◌≡◌, ◌∙◌, ℕ, suc, ◌+◌, ◌≤◌, Bool, true, false, cond, refl, ap, sym, subst, List, [], ◌∷◌, length, decimal, Option, Some, None, Ok, Err, arith}
use Rattle.std.specs.Prelude.{unwrap_or, nat_lt}
use Rattle.std.proofs.lemmas.Bool.{ltb-false}
use Rattle.std.proofs.lemmas.Grind.{common_steps}
use Rattle.serde_json.specs.Data.{Data, Items, no_items, item}
use Rattle.serde_json.specs.Find.{as_array}
use Rattle.helics_time.specs.Time.{max_time, longest_span}
use Rattle.json_reading.specs.Keys.{Member, member_at}
use Rattle.json_reading.specs.Reading.{Read, ◌>>=◌, here, under, at_optional, at_needed, needed_at, each_from, few_items, list_up_to}
use Rattle.json_reading.specs.declared.refusal.ConfigCause.TheVariants.{OutOfRange}
use Rattle.json_reading.specs.Leaves.{time_up_to, whole_between}
use Rattle.serde_json.specs.Events.{items_len}
use Rattle.fed_config.specs.Federate.{most_items, setting_at, iterations_at, list_at}

time_within : (most : ℕ) (d : Data) (t : ℕ) → time_up_to most d ≡ Ok t → t ≤ most
time_within most d t e = grind (arith, common_steps)

whole_within : (least most : ℕ) (d : Data) (n : ℕ) → whole_between least most d ≡ Ok n → (least ≤ n) × (n ≤ most)
whole_within least most d n e = grind (arith, common_steps)

-- what holds of all that is read, and without a member of the default, holds of what is read at a member
at_member : {A : Type 0} (P : A → Type 0) (read : Data → Read A) (default : A) → ((d : Data) (x : A) → read d ≡ Ok x → P x) → P default
    → (m : Option Member) (x : A) → (at_optional read m >>= λ found. Ok (unwrap_or found default)) ≡ Ok x → P x
at_member P read default holds less None x e = let same : default ≡ x = cc in subst P same less
at_member P read default holds less (Some m) x e = go (read m.1) refl e
  where
    go : (r : Read _) → read m.1 ≡ r → ((under m.0 r >>= λ held. Ok (Some held)) >>= λ found. Ok (unwrap_or found default)) ≡ Ok x → P x
    go (Ok held) is e = let same : held ≡ x = cc in subst P same (holds m.1 held is)
    go (Err refusal) is e = cc

pub setting_within : (key : List ℕ) (members : List Member) (t : ℕ) → setting_at key members ≡ Ok t → t ≤ longest_span
setting_within key members t e =
    at_member (λ (n : ℕ). n ≤ longest_span) (time_up_to longest_span) 0 (time_within longest_span) (omega arith) (member_at key members) t e

pub iterations_within : (key : List ℕ) (members : List Member) (n : ℕ) → iterations_at key members ≡ Ok n → (1 ≤ n) × (n ≤ 10000)
iterations_within key members n e =
    at_member (λ (k : ℕ). (1 ≤ k) × (k ≤ 10000)) (whole_between 1 10000) 50 (whole_within 1 10000) (omega arith, omega arith) (member_at key members) n e

pub time_at_within : (key : List ℕ) (members : List Member) (t : ℕ) → needed_at key (time_up_to max_time) members ≡ Ok t → t ≤ max_time
time_at_within key members t e = go (member_at key members) e
  where
    read : (m : Member) (r : Read ℕ) → time_up_to max_time m.1 ≡ r → under m.0 r ≡ Ok t → t ≤ max_time
    read m (Ok held) is e = let same : held ≡ t = cc in subst (λ (n : ℕ). n ≤ max_time) same (time_within max_time m.1 held is)
    read m (Err refusal) is e = cc

    go : (m : Option Member) → at_needed key (time_up_to max_time) m ≡ Ok t → t ≤ max_time
    go None e = cc
    go (Some m) e = read m (time_up_to max_time m.1) refl e

-- a list that is read has as many items as the file's
each_length : {A : Type 0} (read : Data → Read A) (i : ℕ) (ds : Items) (xs : List A) → each_from read i ds ≡ Ok xs → length xs ≡ items_len ds
unfolding each_from
each_length read i no_items xs e = let same : [] ≡ xs = cc in ap (λ ys. length ys) (sym same)
each_length read i (item d ds) xs e = go (read d) (each_from read (i + 1) ds) (each_length read (i + 1) ds) e
  where
    go : (r : Read _) (q : Read (List _)) → ((more : List _) → q ≡ Ok more → length more ≡ items_len ds)
        → (under (decimal i) r >>= λ x. q >>= λ more. Ok (x ∷ more)) ≡ Ok xs → length xs ≡ suc (items_len ds)
    go (Err refusal) q later e = cc
    go (Ok x) (Err refusal) later e = cc
    go (Ok x) (Ok more) later e =
        let same : x ∷ more ≡ xs = cc in
        ap (λ ys. length ys) (sym same) ∙ omega (arith, later more refl)

few_within : {A : Type 0} (most : ℕ) (read : Data → Read A) (d : Data) (xs : List A) → list_up_to most read d ≡ Ok xs → length xs ≤ most
few_within most read d xs e = go (as_array d) e
  where
    go : (o : Option Items) → (here (few_items most o) >>= λ items. each_from read 0 items) ≡ Ok xs → length xs ≤ most
    go None e = cc
    go (Some items) e = test (nat_lt most (items_len items)) refl e
      where
        test : (b : Bool) → nat_lt most (items_len items) ≡ b
            → (here (cond b (Err OutOfRange) (Ok items)) >>= λ held. each_from read 0 held) ≡ Ok xs → length xs ≤ most
        test true over e = cc
        test false over e = omega (arith, each_length read 0 items xs e, ltb-false most (items_len items) over)

pub list_within : {A : Type 0} (key : List ℕ) (read : Data → Read A) (members : List Member) (xs : List A)
    → list_at key read members ≡ Ok xs → length xs ≤ most_items
list_within key read members xs e =
    at_member (λ ys. length ys ≤ most_items) (list_up_to most_items read) [] (few_within most_items read) (omega arith) (member_at key members) xs e
