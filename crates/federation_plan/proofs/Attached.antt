-- What stands at an interface, once those that name it are put there one after another.
use Rattle.std.proofs.Common.{◌≡◌, ◌⊎◌, inl, inr, ℕ, ◌+◌, ◌-◌, ◌<◌, ◌≤◌, Bool, true, false, List, [], ◌∷◌, ◌++◌, length, get_or, take, drop, arith, refl, sym, ◌∙◌, ap, subst, Option, Some, append_assoc, append-nil, length-append}
use Rattle.std.specs.Prelude.{if◌then◌else◌, ◌||◌, slice_get}
use Rattle.std.proofs.lemmas.Bool.{cases_Bool, cases_lt, true≢false}
use Rattle.std.proofs.lemmas.List.Folds.{list_any_more}
use Rattle.std.proofs.lemmas.Option.{slice_get-get_or, slice_get_past}
use Rattle.interface_names.specs.declared.records.FederateRecord.{FederateRecord}
use Rattle.hel_lists.proofs.Members.{filter_holds, filter_fails, at_in}
use Rattle.std.proofs.Math.Seq.{get_or-append_seam}
use Rattle.hel_lists.specs.Members.{IsIn}
use Rattle.hel_values.specs.declared.EndRef.{EndRef}
use Rattle.hel_values.specs.Values.{same_end}
use Rattle.hel_values.specs.Sameness.{same_end-Decides}
use Rattle.federation_plan.specs.Interfaces.{Interface, one_in, interfaces_in, interfaces_from, is_ref, name_ref, refs_naming}
use Rattle.federation_plan.specs.Tables.{entry, ends_with, with_last}
use Rattle.federation_plan.proofs.Lists.{in_append}
use Rattle.federation_plan.proofs.Named.{rest_in, rest_from, none_in, none_from}

-- a reference is the same as itself, and as no other
pub same_itself : (r : EndRef) → same_end r r ≡ true
same_itself r = (same_end-Decides r r).1 refl

pub same_is : (r q : EndRef) → same_end r q ≡ true → r ≡ q
same_is r q = (same_end-Decides r q).0

get_pushed : (qs : List EndRef) (r : EndRef) → slice_get (qs ++ r ∷ []) (length (qs ++ r ∷ []) - 1) ≡ Some r
get_pushed qs r =
    let long : length (qs ++ r ∷ []) ≡ length qs + 1 = length-append qs (r ∷ []) in
    slice_get-get_or (qs ++ r ∷ []) (length (qs ++ r ∷ []) - 1) r (omega arith)
    ∙ ap (λ (k : ℕ). Some (get_or (qs ++ r ∷ []) k r)) (let e : length (qs ++ r ∷ []) - 1 ≡ length qs = omega arith in e)
    ∙ ap (λ (q : EndRef). Some q) (get_or-append_seam qs r [] r)

-- who was put last is the last
pub ends_pushed : (qs : List EndRef) (r : EndRef) → ends_with (qs ++ r ∷ []) r ≡ true
ends_pushed qs r = ap (is_ref r) (get_pushed qs r) ∙ same_itself r

-- one more name: `was` tells whether one before means the interface, `is` whether this one does
pub one_more : (first now after : List EndRef) (by : EndRef) (was is : Bool) → ends_with first by ≡ false →
    now ≡ first ++ (if was then by ∷ [] else []) → after ≡ (if is then with_last now by else now) →
    after ≡ first ++ (if was || is then by ∷ [] else [])
one_more first now after by true true fresh before here =
    here ∙ ap (λ (qs : List EndRef). with_last qs by) before
    ∙ ap (λ (b : Bool). if b then first ++ by ∷ [] else (first ++ by ∷ []) ++ by ∷ []) (ends_pushed first by)
one_more first now after by true false fresh before here = here ∙ before
one_more first now after by false true fresh before here =
    here ∙ ap (λ (qs : List EndRef). with_last qs by) (before ∙ append-nil first)
    ∙ ap (λ (b : Bool). if b then first else first ++ by ∷ []) fresh
one_more first now after by false false fresh before here = here ∙ before

-- the names up to the next one
pub names_more : (meaning : List ℕ → Option EndRef) (names : List (List ℕ)) (i : ℕ) (r : EndRef) (name : List ℕ) → i < length names → name ≡ get_or names i name →
    (name_ref meaning (take i names) r || is_ref r (meaning name)) ≡ name_ref meaning (take (i + 1) names) r
names_more meaning names i r name below at =
    ap (λ (n : List ℕ). name_ref meaning (take i names) r || is_ref r (meaning n)) at
    ∙ sym (list_any_more (λ (n : List ℕ). is_ref r (meaning n)) names i name below)

-- an earlier interface than the one of number n of federate f
abbrev pub IsBefore : EndRef → ℕ → ℕ → Type 0
IsBefore q f n = (q.fed < f) ⊎ ((q.fed ≡ f) × (q.index < n))

-- the last is a member
pub last_in : (qs : List EndRef) (r : EndRef) → ends_with qs r ≡ true → IsIn r qs
last_in qs r holds = elim (cases_lt 0 (length qs)) [
  | inl some ↦
      let last : slice_get qs (length qs - 1) ≡ Some (get_or qs (length qs - 1) r) = slice_get-get_or qs (length qs - 1) r (omega arith) in
      let is : r ≡ get_or qs (length qs - 1) r = same_is r (get_or qs (length qs - 1) r) (sym (ap (is_ref r) last) ∙ holds) in
      subst (λ (q : EndRef). IsIn q qs) (sym is) (at_in qs (length qs - 1) r (omega arith))
  | inr none ↦ absurd (true≢false (sym holds ∙ ap (is_ref r) (slice_get_past qs (length qs - 1) (omega arith))))
]

-- what comes behind earlier ones isn't the last of them
pub not_last : (qs : List EndRef) (f n : ℕ) → ((q : EndRef) → IsIn q qs → IsBefore q f n) → ends_with qs (record { fed = f; index = n }) ≡ false
not_last qs f n before = elim (cases_Bool (ends_with qs (record { fed = f; index = n }))) [
  | inl holds ↦ elim (before (record { fed = f; index = n }) (last_in qs _ holds)) [
    | inl less ↦ absurd (omega arith)
    | inr same ↦ let less : n < n = same.1 in absurd (omega arith)
  ]
  | inr fails ↦ fails
]

-- those of a federate that name an interface, put there one after another
module _ {A : Type 0} (meaning : List ℕ → Option EndRef) (names : A → List (List ℕ)) where
  pub record IsAttachingIn (first now : List (List (List EndRef))) (f n : ℕ) (xs : List A) : Type 0 where
    pub is : (owner : List ℕ) (r : EndRef) → entry now r ++ refs_naming meaning names (interfaces_in owner f n (drop n xs)) r
        ≡ entry first r ++ refs_naming meaning names (interfaces_in owner f 0 xs) r
    pub before : (r q : EndRef) → IsIn q (entry now r) → IsBefore q f n

  pub record IsAttachingFrom (kind : FederateRecord → List A) (now : List (List (List EndRef))) (f : ℕ) (feds : List FederateRecord) : Type 0 where
    pub is : (r : EndRef) → entry now r ++ refs_naming meaning names (interfaces_from kind f (drop f feds)) r ≡ refs_naming meaning names (interfaces_from kind 0 feds) r
    pub before : (r q : EndRef) → IsIn q (entry now r) → q.fed < f

naming_cons : {A : Type 0} (meaning : List ℕ → Option EndRef) (names : A → List (List ℕ)) (r : EndRef) (i : Interface A) (is : List (Interface A)) →
    refs_naming meaning names (i ∷ is) r ≡ (if name_ref meaning (names i.item) r then i.ref ∷ [] else []) ++ refs_naming meaning names is r
naming_cons meaning names r i is = elim (cases_Bool (name_ref meaning (names i.item) r)) [
  | inl holds ↦ rw (filter_holds (λ (i : Interface _). name_ref meaning (names i.item) r) i is holds, holds) refl
  | inr fails ↦ rw (filter_fails (λ (i : Interface _). name_ref meaning (names i.item) r) i is fails, fails) refl
]

-- a member of one list or none
in_either : (b : Bool) (q by : EndRef) → IsIn q (if b then by ∷ [] else []) → q ≡ by
in_either true q by among = elim among [ inl is ↦ is | inr none ↦ absurd none ]
in_either false q by among = absurd among

-- none is there yet
pub begins_in : {A : Type 0} (meaning : List ℕ → Option EndRef) (names : A → List (List ℕ)) (first : List (List (List EndRef))) (f : ℕ) (xs : List A) →
    ((r q : EndRef) → IsIn q (entry first r) → q.fed < f) → IsAttachingIn meaning names first first f 0 xs
begins_in meaning names first f xs earlier = record { is = λ owner r. refl; before = λ r q among. inl (earlier r q among) }

-- the next one is put where it names an interface
pub attached_in : {A : Type 0} (meaning : List ℕ → Option EndRef) (names : A → List (List ℕ)) (first now next : List (List (List EndRef))) (f n : ℕ) (xs : List A) (x : A) (targets : List (List ℕ)) →
    IsAttachingIn meaning names first now f n xs → n < length xs → x ≡ get_or xs n x → targets ≡ names x →
    ((r : EndRef) → entry next r ≡ entry now r ++ (if name_ref meaning targets r then record { fed = f; index = n } ∷ [] else [])) →
    IsAttachingIn meaning names first next f (n + 1) xs
attached_in {A} meaning names first now next f n xs x targets was below at are put_named =
    let put : (r : EndRef) → entry next r ≡ entry now r ++ (if name_ref meaning (names x) r then record { fed = f; index = n } ∷ [] else []) =
    λ r. put_named r ∙ ap (λ (ts : List (List ℕ)). entry now r ++ (if name_ref meaning ts r then record { fed = f; index = n } ∷ [] else [])) are in
    record {
      is = λ owner r.
          let here = if name_ref meaning (names x) r then record { fed = f; index = n } ∷ [] else [] in
          let rest = refs_naming meaning names (interfaces_in owner f (n + 1) (drop (n + 1) xs)) r in
          ap (λ (qs : List EndRef). qs ++ rest) (put r) ∙ append_assoc (entry now r) here rest
          ∙ ap (λ (qs : List EndRef). entry now r ++ qs) (sym (naming_cons meaning names r (one_in owner f n x) (interfaces_in owner f (n + 1) (drop (n + 1) xs)))
          ∙ ap (λ (y : A). refs_naming meaning names (one_in owner f n y ∷ interfaces_in owner f (n + 1) (drop (n + 1) xs)) r) at
          ∙ sym (ap (λ (is : List (Interface A)). refs_naming meaning names is r) (rest_in owner f n xs x below)))
          ∙ was.is owner r;
      before = λ r q among. elim (in_append (entry now r) _ q (subst (IsIn q) (put r) among)) [
        | inl old ↦ elim (was.before r q old) [ inl less ↦ inl less | inr same ↦ inr (same.0, (let below' = same.1 in omega arith)) ]
        | inr new ↦
            let is : q ≡ record { fed = f; index = n } = in_either (name_ref meaning (names x) r) q _ new in
            inr (ap (λ (p : EndRef). p.fed) is, (let same : q.index ≡ n = ap (λ (p : EndRef). p.index) is in omega arith))
      ];
    }

-- all of the federate are done
pub ends_in : {A : Type 0} (meaning : List ℕ → Option EndRef) (names : A → List (List ℕ)) (first now : List (List (List EndRef))) (f n : ℕ) (xs : List A) →
    IsAttachingIn meaning names first now f n xs → length xs ≤ n →
    (owner : List ℕ) (r : EndRef) → entry now r ≡ entry first r ++ refs_naming meaning names (interfaces_in owner f 0 xs) r
ends_in {A} meaning names first now f n xs was past owner r =
    append-nil' (entry now r)
    ∙ sym (ap (λ (is : List (Interface A)). entry now r ++ refs_naming meaning names is r) (none_in owner f n xs past))
    ∙ was.is owner r
  where
    append-nil' : (qs : List EndRef) → qs ≡ qs ++ []
    append-nil' qs = sym (append-nil qs)

-- those of a federate that name an interface are the federate's
naming_of : {A : Type 0} (meaning : List ℕ → Option EndRef) (names : A → List (List ℕ)) (owner : List ℕ) (f n : ℕ) (xs : List A) (r q : EndRef) →
    IsIn q (refs_naming meaning names (interfaces_in owner f n xs) r) → q.fed ≡ f
naming_of meaning names owner f n [] r q among = absurd among
naming_of meaning names owner f n (x ∷ xs) r q among =
    elim (in_append _ _ q (subst (IsIn q) (naming_cons meaning names r (one_in owner f n x) (interfaces_in owner f (n + 1) xs)) among)) [
      | inl here ↦ ap (λ (p : EndRef). p.fed) (in_either (name_ref meaning (names x) r) q _ here)
      | inr later ↦ naming_of meaning names owner f (n + 1) xs r q later
    ]

naming_append : {A : Type 0} (meaning : List ℕ → Option EndRef) (names : A → List (List ℕ)) (is js : List (Interface A)) (r : EndRef) →
    refs_naming meaning names (is ++ js) r ≡ refs_naming meaning names is r ++ refs_naming meaning names js r
naming_append meaning names [] js r = refl
naming_append meaning names (i ∷ is) js r =
    naming_cons meaning names r i (is ++ js)
    ∙ ap (λ (qs : List EndRef). (if name_ref meaning (names i.item) r then i.ref ∷ [] else []) ++ qs) (naming_append meaning names is js r)
    ∙ sym (append_assoc (if name_ref meaning (names i.item) r then i.ref ∷ [] else []) (refs_naming meaning names is r) (refs_naming meaning names js r))
    ∙ ap (λ (qs : List EndRef). qs ++ refs_naming meaning names js r) (sym (naming_cons meaning names r i is))

pub attached_from : {A : Type 0} (meaning : List ℕ → Option EndRef) (names : A → List (List ℕ)) (kind : FederateRecord → List A) (now next : List (List (List EndRef))) (f : ℕ)
    (feds : List FederateRecord) (x : FederateRecord) (xs : List A) → IsAttachingFrom meaning names kind now f feds → f < length feds → x ≡ get_or feds f x → xs ≡ kind x →
    ((owner : List ℕ) (r : EndRef) → entry next r ≡ entry now r ++ refs_naming meaning names (interfaces_in owner f 0 xs) r) →
    IsAttachingFrom meaning names kind next (f + 1) feds
attached_from {A} meaning names kind now next f feds x xs was below at are put = record {
  is = λ r.
      let here = refs_naming meaning names (interfaces_in x.name f 0 xs) r in
      let rest = refs_naming meaning names (interfaces_from kind (f + 1) (drop (f + 1) feds)) r in
      ap (λ (qs : List EndRef). qs ++ rest) (put x.name r) ∙ append_assoc (entry now r) here rest
      ∙ ap (λ (qs : List EndRef). entry now r ++ qs)
      (ap (λ (l : List A). refs_naming meaning names (interfaces_in x.name f 0 l) r ++ rest) are
      ∙ sym (naming_append meaning names (interfaces_in x.name f 0 (kind x)) (interfaces_from kind (f + 1) (drop (f + 1) feds)) r)
      ∙ sym (ap (λ (is : List (Interface A)). refs_naming meaning names is r) (rest_from kind f feds x below at)))
      ∙ was.is r;
  before = λ r q among. elim (in_append (entry now r) _ q (subst (IsIn q) (put x.name r) among)) [
    | inl old ↦ let less : q.fed < f = was.before r q old in omega arith
    | inr new ↦ let same : q.fed ≡ f = naming_of meaning names x.name f 0 xs r q new in omega arith
  ];
}

pub ends_from : {A : Type 0} (meaning : List ℕ → Option EndRef) (names : A → List (List ℕ)) (kind : FederateRecord → List A) (now : List (List (List EndRef))) (f : ℕ) (feds : List FederateRecord) →
    IsAttachingFrom meaning names kind now f feds → length feds ≤ f → (r : EndRef) → entry now r ≡ refs_naming meaning names (interfaces_from kind 0 feds) r
ends_from {A} meaning names kind now f feds was past r =
    sym (append-nil (entry now r))
    ∙ sym (ap (λ (is : List (Interface A)). entry now r ++ refs_naming meaning names is r) (none_from kind f feds past))
    ∙ was.is r
