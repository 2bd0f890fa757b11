-- The first answer that one of the interfaces gives, asked one after another.
use Rattle.std.proofs.Common.{◌≡◌, ◌⊎◌, inl, inr, ℕ, ◌+◌, ◌<◌, ◌≤◌, List, [], ◌∷◌, ◌++◌, length, get_or, drop, refl, sym, ◌∙◌, ap, subst, suc, drop-cons, add-one, Option, Some, None, false}
use Rattle.std.specs.Prelude.{is_some, is_none, if◌then◌else◌}
use Rattle.std.proofs.lemmas.Bool.{true≢false}
use Rattle.std.proofs.lemmas.List.{drop_all}
use Rattle.std.specs.Option.{option_or}
use Rattle.interface_names.specs.declared.records.FederateRecord.{FederateRecord}
use Rattle.federation_plan.specs.Interfaces.{Interface, one_in, interfaces_in, interfaces_from}
use Rattle.federation_plan.specs.Refusal.{first_some}
use Rattle.federation_plan.proofs.Named.{option_or_assoc, rest_in, rest_from}

pub first_append : {A B : Type 0} (ask : A → Option B) (xs ys : List A) → first_some ask (xs ++ ys) ≡ option_or (first_some ask xs) (first_some ask ys)
first_append ask [] ys = refl
first_append ask (x ∷ xs) ys =
    ap (λ (o : Option _). option_or (ask x) o) (first_append ask xs ys) ∙ sym (option_or_assoc (ask x) (first_some ask xs) (first_some ask ys))

some_first : {B : Type 0} (o rest all : Option B) (r : B) → o ≡ Some r → option_or o rest ≡ all → all ≡ Some r
some_first o rest all r here was = sym was ∙ ap (λ (p : Option _). option_or p rest) here

none_first : {B : Type 0} (o rest all : Option B) → o ≡ None → option_or o rest ≡ all → rest ≡ all
none_first o rest all here was = sym (ap (λ (p : Option _). option_or p rest) here) ∙ was

module _ {A B : Type 0} (ask : Interface A → Option B) (all : Option B) (owner : List ℕ) (f n : ℕ) (xs : List A) where
  -- what those from number n on answer is the whole answer
  pub record IsLeftIn : Type 0 where
    pub is : first_some ask (interfaces_in owner f n (drop n xs)) ≡ all

  here_in : (x : A) → IsLeftIn → n < length xs → x ≡ get_or xs n x →
      option_or (ask (one_in owner f n x)) (first_some ask (interfaces_in owner f (n + 1) (drop (n + 1) xs))) ≡ all
  here_in x left below at =
      ap (λ (y : A). option_or (ask (one_in owner f n y)) (first_some ask (interfaces_in owner f (n + 1) (drop (n + 1) xs)))) at
      ∙ sym (ap (first_some ask) (rest_in owner f n xs x below)) ∙ left.is

  -- the one of number n gives it
  pub found_in : {M : Type 0} (x : A) (r : B) → IsLeftIn → n < length xs → x ≡ get_or xs n x → M ⊎ (ask (one_in owner f n x) ≡ Some r) → M ⊎ (all ≡ Some r)
  found_in x r left below at (inl wanting) = inl wanting
  found_in x r left below at (inr here) = inr (some_first _ _ all r here (here_in x left below at))

  -- the same of a list that was lent
  pub found_lent : {M : Type 0} (ys : List A) (x : A) (r : B) → ys ≡ xs → IsLeftIn → n < length ys → x ≡ get_or ys n x → M ⊎ (ask (one_in owner f n x) ≡ Some r) → M ⊎ (all ≡ Some r)
  found_lent ys x r same left below at here =
      found_in x r left (subst (λ (l : List A). n < length l) same below) (subst (λ (l : List A). x ≡ get_or l n x) same at) here

-- the one of number n gives none
pub next_in : {A B : Type 0} (ask : Interface A → Option B) (all : Option B) (owner : List ℕ) (f n : ℕ) (xs : List A) (x : A) →
    IsLeftIn ask all owner f n xs → n < length xs → x ≡ get_or xs n x → ask (one_in owner f n x) ≡ None → IsLeftIn ask all owner f (n + 1) xs
next_in ask all owner f n xs x left below at here = record { is = none_first _ _ all here (here_in ask all owner f n xs x left below at) }

pub next_lent : {A B : Type 0} (ask : Interface A → Option B) (all : Option B) (owner : List ℕ) (f n : ℕ) (xs ys : List A) (x : A) → ys ≡ xs →
    IsLeftIn ask all owner f n xs → n < length ys → x ≡ get_or ys n x → ask (one_in owner f n x) ≡ None → IsLeftIn ask all owner f (n + 1) xs
next_lent {A} ask all owner f n xs ys x same left below at here =
    next_in ask all owner f n xs x left (subst (λ (l : List A). n < length l) same below) (subst (λ (l : List A). x ≡ get_or l n x) same at) here

module _ {A B : Type 0} (kind : FederateRecord → List A) (ask : Interface A → Option B) (all : Option B) (f : ℕ) (feds : List FederateRecord) where
  -- the same of federates
  pub record IsLeftFrom : Type 0 where
    pub is : first_some ask (interfaces_from kind f (drop f feds)) ≡ all

  here_from : (x : FederateRecord) → IsLeftFrom → f < length feds → x ≡ get_or feds f x →
      option_or (first_some ask (interfaces_in x.name f 0 (kind x))) (first_some ask (interfaces_from kind (f + 1) (drop (f + 1) feds))) ≡ all
  here_from x left below at =
      sym (first_append ask (interfaces_in x.name f 0 (kind x)) (interfaces_from kind (f + 1) (drop (f + 1) feds)))
      ∙ sym (ap (first_some ask) (rest_from kind f feds x below at)) ∙ left.is

  pub found_from : {M : Type 0} (x : FederateRecord) (r : B) → IsLeftFrom → f < length feds → x ≡ get_or feds f x →
      M ⊎ (first_some ask (interfaces_in x.name f 0 (kind x)) ≡ Some r) → M ⊎ (all ≡ Some r)
  found_from x r left below at (inl wanting) = inl wanting
  found_from x r left below at (inr here) = inr (some_first _ _ all r here (here_from x left below at))

pub next_from : {A B : Type 0} (kind : FederateRecord → List A) (ask : Interface A → Option B) (all : Option B) (f : ℕ) (feds : List FederateRecord) (x : FederateRecord) →
    IsLeftFrom kind ask all f feds → f < length feds → x ≡ get_or feds f x → first_some ask (interfaces_in x.name f 0 (kind x)) ≡ None → IsLeftFrom kind ask all (f + 1) feds
next_from kind ask all f feds x left below at here = record { is = none_first _ _ all here (here_from kind ask all f feds x left below at) }

-- a name that means nothing is refused
pub refused_alone : {A B : Type 0} (meaning : List ℕ → Option A) (refusal : List ℕ → B) (lent name copy : List ℕ) → false ≡ is_some (meaning lent) → lent ≡ name → copy ≡ name →
    (if is_none (meaning name) then Some (refusal name) else None) ≡ Some (refusal copy)
refused_alone {A} {B} meaning refusal lent name copy absent same copied =
    none_of (meaning name) (absent ∙ ap (λ (k : List ℕ). is_some (meaning k)) same) ∙ ap (λ (k : List ℕ). Some (refusal k)) (sym copied)
  where
    none_of : (o : Option A) → false ≡ is_some o → (if is_none o then Some (refusal name) else None) ≡ Some (refusal name)
    none_of None h = refl
    none_of (Some x) h = absurd (true≢false (sym h))

-- the first answer of plain items
pub record IsLeft {A B : Type 0} (ask : A → Option B) (n : ℕ) (xs : List A) : Type 0 where
  pub is : first_some ask (drop n xs) ≡ first_some ask xs

pub begins : {A B : Type 0} (ask : A → Option B) (xs : List A) → IsLeft ask 0 xs
begins ask xs = record { is = refl }

here : {A B : Type 0} (ask : A → Option B) (n : ℕ) (xs : List A) (x : A) → n < length xs → x ≡ get_or xs n x → first_some ask (drop n xs) ≡ option_or (ask x) (first_some ask (drop (n + 1) xs))
here {A} ask n xs x below at =
    ap (first_some ask) (drop-cons xs n x below) ∙ ap (λ (y : A). option_or (ask y) (first_some ask (drop (suc n) xs))) (sym at)
    ∙ ap (λ (k : ℕ). option_or (ask x) (first_some ask (drop k xs))) (sym (add-one n))

pub found : {A B : Type 0} (ask : A → Option B) (n : ℕ) (xs : List A) (x : A) (r : B) → IsLeft ask n xs → n < length xs → x ≡ get_or xs n x → ask x ≡ Some r → first_some ask xs ≡ Some r
found ask n xs x r left below at holds = some_first _ _ _ r holds (sym (here ask n xs x below at) ∙ left.is)

pub next : {A B : Type 0} (ask : A → Option B) (n : ℕ) (xs : List A) (x : A) → IsLeft ask n xs → n < length xs → x ≡ get_or xs n x → ask x ≡ None → IsLeft ask (n + 1) xs
next ask n xs x left below at fails = record { is = none_first _ _ _ fails (sym (here ask n xs x below at) ∙ left.is) }

pub done : {A B : Type 0} (ask : A → Option B) (n : ℕ) (xs : List A) → IsLeft ask n xs → length xs ≤ n → first_some ask xs ≡ None
done ask n xs left past = sym left.is ∙ ap (first_some ask) (drop_all n xs past)
