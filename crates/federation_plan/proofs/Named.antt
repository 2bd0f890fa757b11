-- Lists of interfaces, and the first of a name among them.
use Rattle.std.proofs.Common.{◌≡◌, inl, inr, ℕ, suc, ◌+◌, ◌<◌, ◌≤◌, Bool, true, false, List, [], ◌∷◌, ◌++◌, length, get_or, drop, drop-cons, arith, refl, sym, ◌∙◌, ap, Option, Some, None, add-one, cond}
use Rattle.std.specs.Prelude.{if◌then◌else◌, is_some, find}
use Rattle.std.specs.Option.{option_or, option_map}
use Rattle.std.specs.Str.{bytes_eq}
use Rattle.std.proofs.lemmas.List.{drop_all, get_or_past}
use Rattle.std.proofs.lemmas.Bool.{cases_Bool, cases_lt, true≢false}
use Rattle.std.proofs.lemmas.Slice.Eq.{bytes_eq-Decides}
use Rattle.std.specs.Map.{update}
use Rattle.interface_names.specs.Federate.{OwnName}
use Rattle.interface_names.specs.Names.{global_name_of}
use Rattle.federation_plan.specs.Names.{known_as}
use Rattle.hel_values.specs.declared.EndRef.{EndRef}
use Rattle.interface_names.specs.declared.records.FederateRecord.{FederateRecord}
use Rattle.federation_plan.specs.Interfaces.{Interface, one_in, interfaces_in, interfaces_from, named, federate_at, blank_federate}

pub option_or_assoc : {A : Type 0} (a b c : Option A) → option_or (option_or a b) c ≡ option_or a (option_or b c)
option_or_assoc (Some x) b c = refl
option_or_assoc None b c = refl

or_none : {A : Type 0} (o : Option A) → o ≡ option_or o None
or_none None = refl
or_none (Some x) = refl

-- those from number n on are the one of that number and those behind it
pub rest_in : {A : Type 0} (owner : List ℕ) (f n : ℕ) (xs : List A) (d : A) → n < length xs →
    interfaces_in owner f n (drop n xs) ≡ one_in owner f n (get_or xs n d) ∷ interfaces_in owner f (n + 1) (drop (n + 1) xs)
rest_in owner f n xs d below =
    ap (λ (l : List _). interfaces_in owner f n l) (drop-cons xs n d below)
    ∙ ap (λ (k : ℕ). one_in owner f n (get_or xs n d) ∷ interfaces_in owner f (n + 1) (drop k xs)) (sym (add-one n))

-- those of the federates from number f on are those of that one and those of the ones behind it
pub rest_from : {A : Type 0} (kind : FederateRecord → List A) (f : ℕ) (feds : List FederateRecord) (x : FederateRecord) → f < length feds → x ≡ get_or feds f x →
    interfaces_from kind f (drop f feds) ≡ interfaces_in x.name f 0 (kind x) ++ interfaces_from kind (f + 1) (drop (f + 1) feds)
rest_from kind f feds x below at =
    ap (λ (l : List FederateRecord). interfaces_from kind f l) (drop-cons feds f x below)
    ∙ ap (λ (y : FederateRecord). interfaces_in y.name f 0 (kind y) ++ interfaces_from kind (f + 1) (drop (suc f) feds)) (sym at)
    ∙ ap (λ (k : ℕ). interfaces_in x.name f 0 (kind x) ++ interfaces_from kind (f + 1) (drop k feds)) (sym (add-one f))

-- none are left
pub none_from : {A : Type 0} (kind : FederateRecord → List A) (f : ℕ) (feds : List FederateRecord) → length feds ≤ f → interfaces_from kind f (drop f feds) ≡ []
none_from kind f feds past = ap (λ (l : List FederateRecord). interfaces_from kind f l) (drop_all f feds past)

pub none_in : {A : Type 0} (owner : List ℕ) (f n : ℕ) (xs : List A) → length xs ≤ n → interfaces_in owner f n (drop n xs) ≡ []
none_in owner f n xs past = ap (λ (l : List _). interfaces_in owner f n l) (drop_all n xs past)

-- the first of a name, by the test of the first interface
abbrev pub by_test : {A : Type 0} → Interface A → (Interface A → List ℕ) → List ℕ → List (Interface A) → Bool → Option EndRef
by_test i name_of name is b = option_map (λ j. j.ref) (cond b (Some i) (find (λ j. bytes_eq name (name_of j)) is))

-- the first of a name among two lists
pub named_append : {A : Type 0} (name_of : Interface A → List ℕ) (name : List ℕ) (is js : List (Interface A)) →
    named name_of name (is ++ js) ≡ option_or (named name_of name is) (named name_of name js)
named_append name_of name [] js = refl
named_append name_of name (i ∷ is) js = elim (cases_Bool (bytes_eq name (name_of i))) [
  | inl same ↦
      ap (λ (b : Bool). by_test i name_of name (is ++ js) b) same
      ∙ sym (ap (λ (b : Bool). option_or (by_test i name_of name is b) (named name_of name js)) same)
  | inr other ↦
      ap (λ (b : Bool). by_test i name_of name (is ++ js) b) other ∙ named_append name_of name is js
      ∙ sym (ap (λ (b : Bool). option_or (by_test i name_of name is b) (named name_of name js)) other)
]

pub named_cons : {A : Type 0} (name_of : Interface A → List ℕ) (name : List ℕ) (i : Interface A) (is : List (Interface A)) →
    option_or (if bytes_eq name (name_of i) then Some i.ref else None) (named name_of name is) ≡ named name_of name (i ∷ is)
named_cons name_of name i is = elim (cases_Bool (bytes_eq name (name_of i))) [
  | inl same ↦
      ap (λ (b : Bool). option_or (if b then Some i.ref else None) (named name_of name is)) same
      ∙ sym (ap (λ (b : Bool). by_test i name_of name is b) same)
  | inr other ↦
      ap (λ (b : Bool). option_or (if b then Some i.ref else None) (named name_of name is)) other
      ∙ sym (ap (λ (b : Bool). by_test i name_of name is b) other)
]

-- a table that has the names before, and now one more
pub one_named : {A : Type 0} (name_of : Interface A → List ℕ) (before after all : List ℕ → Option EndRef) (owner : List ℕ) (f n : ℕ) (xs : List A) (d : A) (key : List ℕ) →
    n < length xs → ((name : List ℕ) → option_or (before name) (named name_of name (interfaces_in owner f n (drop n xs))) ≡ all name) →
    key ≡ name_of (one_in owner f n (get_or xs n d)) →
    ((name : List ℕ) → after name ≡ option_or (before name) (if bytes_eq name key then Some (record { fed = f; index = n }) else None)) →
    (name : List ℕ) → option_or (after name) (named name_of name (interfaces_in owner f (n + 1) (drop (n + 1) xs))) ≡ all name
one_named name_of before after all owner f n xs d key below was is put name =
    let here = one_in owner f n (get_or xs n d) in
    let rest = interfaces_in owner f (n + 1) (drop (n + 1) xs) in
    ap (λ (o : Option EndRef). option_or o (named name_of name rest)) (put name)
    ∙ option_or_assoc (before name) (if bytes_eq name key then Some here.ref else None) (named name_of name rest)
    ∙ ap (λ (k : List ℕ). option_or (before name) (option_or (if bytes_eq name k then Some here.ref else None) (named name_of name rest))) is
    ∙ ap (λ (o : Option EndRef). option_or (before name) o) (named_cons name_of name here rest
    ∙ sym (ap (λ (l : List (Interface _)). named name_of name l) (rest_in owner f n xs d below)))
    ∙ was name

-- the same of a federate
pub federate_named : {A : Type 0} (kind : FederateRecord → List A) (name_of : Interface A → List ℕ) (before after all : List ℕ → Option EndRef) (f : ℕ) (feds : List FederateRecord) (x : FederateRecord) (xs : List A) →
    f < length feds → x ≡ get_or feds f x → xs ≡ kind x → ((name : List ℕ) → option_or (before name) (named name_of name (interfaces_from kind f (drop f feds))) ≡ all name) →
    ((name : List ℕ) → after name ≡ option_or (before name) (named name_of name (interfaces_in x.name f 0 xs))) →
    (name : List ℕ) → option_or (after name) (named name_of name (interfaces_from kind (f + 1) (drop (f + 1) feds))) ≡ all name
federate_named {A = A} kind name_of before after all f feds x xs below at are was added name =
    let here = interfaces_in x.name f 0 (kind x) in
    let rest = interfaces_from kind (f + 1) (drop (f + 1) feds) in
    ap (λ (o : Option EndRef). option_or o (named name_of name rest)) (added name)
    ∙ ap (λ (l : List A). option_or (option_or (before name) (named name_of name (interfaces_in x.name f 0 l))) (named name_of name rest)) are
    ∙ option_or_assoc (before name) (named name_of name here) (named name_of name rest)
    ∙ ap (λ (o : Option EndRef). option_or (before name) o) (sym (named_append name_of name here rest)
    ∙ sym (ap (λ (l : List (Interface _)). named name_of name l) (rest_from kind f feds x below at)))
    ∙ was name

-- all federates are done
pub all_named : {A : Type 0} (kind : FederateRecord → List A) (name_of : Interface A → List ℕ) (now all : List ℕ → Option EndRef) (f : ℕ) (feds : List FederateRecord) →
    length feds ≤ f → ((name : List ℕ) → option_or (now name) (named name_of name (interfaces_from kind f (drop f feds))) ≡ all name) →
    (name : List ℕ) → now name ≡ all name
all_named kind name_of now all f feds past was name =
    or_none (now name) ∙ sym (ap (λ (l : List (Interface _)). option_or (now name) (named name_of name l)) (none_from kind f feds past)) ∙ was name

-- what an interface is called, from what its federate calls it
pub called : {A : Type 0} (own : A → OwnName) (owner key lent name : List ℕ) (global : Bool) (f n : ℕ) (xs : List A) (x : A) → lent ≡ owner →
    key ≡ global_name_of lent name global → record { name = name; global = global } ≡ own x → x ≡ get_or xs n x →
    key ≡ known_as own (one_in owner f n (get_or xs n x))
called own owner key lent name global f n xs x same is says at =
    is ∙ ap (λ (o : List ℕ). global_name_of o name global) same ∙ ap (λ (o : OwnName). global_name_of owner o.name o.global) says ∙ ap (λ (y : _). known_as own (one_in owner f n y)) at

-- a table by text, in which one more was put where none stood
pub text_put : (before after : List ℕ → Option EndRef) (key : List ℕ) (at : EndRef) → is_some (before key) ≡ false →
    ((q : List ℕ) → after q ≡ update bytes_eq before key (Some at) q) →
    (q : List ℕ) → after q ≡ option_or (before q) (if bytes_eq q key then Some at else None)
text_put before after key at absent updates q = elim (cases_Bool (bytes_eq key q)) [
  | inl same ↦
      let is : key ≡ q = (bytes_eq-Decides key q).0 same in
      let back : bytes_eq q key ≡ true = (bytes_eq-Decides q key).1 (sym is) in
      let none : before q ≡ None = none_at (before q) (ap (λ (k : List ℕ). is_some (before k)) (sym is) ∙ absent) in
      updates q ∙ ap (λ (b : Bool). cond b (Some at) (before q)) same
      ∙ sym (ap (λ (o : Option EndRef). option_or o (if bytes_eq q key then Some at else None)) none
      ∙ ap (λ (b : Bool). if b then Some at else None) back)
  | inr other ↦
      let back : bytes_eq q key ≡ false = elim (cases_Bool (bytes_eq q key)) [
        | inl holds ↦ absurd (true≢false (sym ((bytes_eq-Decides key q).1 (sym ((bytes_eq-Decides q key).0 holds))) ∙ other))
        | inr fails ↦ fails
      ] in
      updates q ∙ ap (λ (b : Bool). cond b (Some at) (before q)) other ∙ or_none (before q)
      ∙ sym (ap (λ (b : Bool). option_or (before q) (if b then Some at else None)) back)
]
  where
    none_at : (o : Option EndRef) → is_some o ≡ false → o ≡ None
    none_at None h = refl
    none_at (Some x) h = absurd (true≢false h)

-- who has an interface is a federate
pub federate_within : {A : Type 0} (kind : FederateRecord → List A) (feds : List FederateRecord) (f n : ℕ) → kind blank_federate ≡ [] → n < length (kind (federate_at feds f)) → f < length feds
federate_within {A} kind feds f n none some = elim (cases_lt f (length feds)) [
  | inl below ↦ below
  | inr past ↦
      let blank : length (kind (federate_at feds f)) ≡ 0 = ap (λ (x : FederateRecord). length (kind x)) (get_or_past feds f blank_federate past) ∙ ap (λ (l : List A). length l) none in
      absurd (omega arith)
]
