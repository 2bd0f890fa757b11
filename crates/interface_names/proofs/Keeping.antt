-- A registry keeps what it holds when it takes in a federate that there is no reason to refuse.
use Rattle.std.proofs.Common.{◌≡◌, ◌≢◌, ◌∙◌, ℕ, zero, suc, ◌<◌, ◌≤◌, Bool, true, false, List, [], ◌∷◌, ◌++◌, Option, None, Some, length, get_or, ap, sym, subst, refl, append_assoc, append-nil, arith, inl, inr, length-append, eq-eqb}
use Rattle.std.specs.Prelude.{All, AllPairs, nat_le, nat_lt, nat_eq, ◌&&◌, if◌then◌else◌}
use Rattle.std.specs.List.{list_any}
use Rattle.std.specs.Option.{option_or, option_map}
use Rattle.std.specs.Str.{bytes_eq}
use Rattle.std.proofs.lemmas.Bool.{cases_Bool, true≢false, ltb-false, leb-false}
use Rattle.std.proofs.lemmas.Grind.{flat_map-append}
use Rattle.std.proofs.lemmas.List.Elements.{All-append}
use Rattle.std.proofs.lemmas.List.Folds.{list_any_at}
use Rattle.std.proofs.lemmas.List.Quantifiers.{all_pairs_push}
use Rattle.std.proofs.lemmas.Slice.Eq.{bytes_eq-Decides}
use Rattle.interface_names.specs.declared.names.GlobalName.{GlobalName}
use Rattle.interface_names.specs.declared.records.FederateRecord.{FederateRecord}
use Rattle.interface_names.specs.declared.registry.RegistryRefusal.{RegistryRefusal}
use Rattle.interface_names.specs.declared.registry.RegistryRefusal.TheVariants.{TooManyFederates, BadName, DuplicateFederate, TooManyInterfaces, DuplicateName}
use Rattle.interface_names.specs.Limits.{most_federates, most_interfaces}
use Rattle.interface_names.specs.GlobalName.{number_of, is_same, stands_in, first_duplicate}
use Rattle.interface_names.specs.Federate.{names_of, has_bad_name, interface_count}
use Rattle.interface_names.specs.Registry.{all_names, has_federate, plain_refusal_of, duplicate_refusal_of, refusal_of, IsRegistry}

-- where none passes the test, the one at a place doesn't
none_passes : {X : Type 0} (p : X → Bool) (xs : List X) (k : ℕ) (d : X) → list_any p xs ≡ false → k < length xs → p (get_or xs k d) ≡ false
none_passes p xs k d none below = elim (cases_Bool (p (get_or xs k d))) [
  | inl passes ↦ absurd (true≢false (sym (list_any_at p xs k d below passes) ∙ none))
  | inr fails ↦ fails
]

-- what holds of x holds of each of a list of x alone
all_one : {X : Type 0} (P : X → Type 0) (x : X) → P x → All P (x ∷ [])
all_one P x holds zero d below = holds
all_one P x holds (suc k) d below = absurd (omega arith)

-- a name is the same as itself
same_itself : (n : GlobalName) → is_same n n ≡ true
same_itself n =
    let kinds : nat_eq (number_of n.kind) (number_of n.kind) ≡ true = eq-eqb _ _ refl in
    let names : bytes_eq n.name n.name ≡ true = (bytes_eq-Decides n.name n.name).1 refl in
    ap (λ (b : Bool). b && bytes_eq n.name n.name) kinds ∙ names

-- names of which each stands once, with new ones of which none is a duplicate
once_more : (names new : List GlobalName) → AllPairs ◌≢◌ names → first_duplicate names new ≡ None → AllPairs ◌≢◌ (names ++ new)
once_more names [] once none = subst (AllPairs ◌≢◌) (sym (append-nil names)) once
once_more names (x ∷ xs) once none = elim (cases_Bool (stands_in names x)) [
  | inl stands ↦
      let found : Some x ≡ None = sym (ap (λ (b : Bool). if b then Some x else first_duplicate (names ++ x ∷ []) xs) stands) ∙ none in
      absurd (cc)
  | inr new ↦
      let rest : first_duplicate (names ++ x ∷ []) xs ≡ None =
      sym (ap (λ (b : Bool). if b then Some x else first_duplicate (names ++ x ∷ []) xs) new) ∙ none in
      let apart : (k : ℕ) (d : GlobalName) → k < length names → get_or names k d ≢ x = λ k d below same.
      true≢false (sym (same_itself x) ∙ ap (is_same x) (sym same) ∙ none_passes (is_same x) names k d new below) in
      subst (AllPairs ◌≢◌) (append_assoc names (x ∷ []) xs)
      (once_more (names ++ x ∷ []) xs (all_pairs_push ◌≢◌ names x once apart) rest)
]

-- nothing speaks against the federate
record Passes (federates : List FederateRecord) (f : FederateRecord) : Type 0 where
  room : nat_le most_federates (length federates) ≡ false
  no_bad_name : has_bad_name f ≡ false
  new : has_federate federates f.name ≡ false
  few_interfaces : nat_lt most_interfaces (interface_count f) ≡ false
  no_duplicate : first_duplicate (all_names federates) (names_of f) ≡ None

passes : (federates : List FederateRecord) (f : FederateRecord) → refusal_of federates f ≡ None → Passes federates f
passes federates f none =
    go (nat_le most_federates (length federates)) (has_bad_name f) (has_federate federates f.name)
    (nat_lt most_interfaces (interface_count f)) (first_duplicate (all_names federates) (names_of f)) refl refl refl refl refl none
  where
    go : (full bad taken many : Bool) (duplicate : Option GlobalName)
        → nat_le most_federates (length federates) ≡ full → has_bad_name f ≡ bad → has_federate federates f.name ≡ taken
        → nat_lt most_interfaces (interface_count f) ≡ many → first_duplicate (all_names federates) (names_of f) ≡ duplicate
        → option_or (if full then Some TooManyFederates else (if bad then Some BadName else (if taken then Some DuplicateFederate
        else (if many then Some TooManyInterfaces else None)))) (option_map (λ duplicate. DuplicateName duplicate.name) duplicate) ≡ None
        → Passes federates f
    go false false false false None a b c d e h = record { room = a; no_bad_name = b; new = c; few_interfaces = d; no_duplicate = e }
    go full bad taken many duplicate a b c d e h = absurd (cc)

-- its names come behind those of the others
names_with : (federates : List FederateRecord) (f : FederateRecord) → all_names (federates ++ f ∷ []) ≡ all_names federates ++ names_of f
names_with federates f =
    flat_map-append names_of federates (f ∷ []) ∙ ap (λ (ns : List GlobalName). all_names federates ++ ns) (append-nil (names_of f))

-- the registry with the federate
pub keeps_with : (federates : List FederateRecord) (f : FederateRecord) → IsRegistry federates → refusal_of federates f ≡ None → IsRegistry (federates ++ f ∷ [])
keeps_with federates f was none =
    let p = passes federates f none in
    let room : length federates < most_federates = leb-false _ _ p.room in
    let few : interface_count f ≤ most_interfaces = ltb-false _ _ p.few_interfaces in
    let apart : (k : ℕ) (d : FederateRecord) → k < length federates → (get_or federates k d).name ≢ f.name = λ k d below same.
    true≢false (sym ((bytes_eq-Decides (get_or federates k d).name f.name).1 same) ∙ none_passes (λ (g : FederateRecord). bytes_eq g.name f.name) federates k d p.new below) in
    record {
      few = omega (arith, length-append federates (f ∷ []));
      no_bad_name = All-append (λ g. has_bad_name g ≡ false) federates (f ∷ []) was.no_bad_name (all_one (λ g. has_bad_name g ≡ false) f p.no_bad_name);
      few_interfaces = All-append (λ g. interface_count g ≤ most_interfaces) federates (f ∷ []) was.few_interfaces (all_one (λ g. interface_count g ≤ most_interfaces) f few);
      federates_once = all_pairs_push (λ g h. g.name ≢ h.name) federates f was.federates_once apart;
      names_once = subst (AllPairs ◌≢◌) (sym (names_with federates f)) (once_more (all_names federates) (names_of f) was.names_once p.no_duplicate);
    }

-- so does a registry with its table of names
pub keeps_table : (federates federates' : List FederateRecord) (f : FederateRecord) (names new names' : List GlobalName)
    → IsRegistry federates × (names ≡ all_names federates) → plain_refusal_of federates f ≡ None → new ≡ names_of f → duplicate_refusal_of names new ≡ None
    → federates' ≡ federates ++ f ∷ [] → names' ≡ names ++ new → IsRegistry federates' × (names' ≡ all_names federates')
keeps_table federates federates' f names new names' was plain new_is fresh federates_are names_are =
    let no_duplicate : duplicate_refusal_of (all_names federates) (names_of f) ≡ None =
    ap (duplicate_refusal_of (all_names federates)) (sym new_is) ∙ ap (λ (ns : List GlobalName). duplicate_refusal_of ns new) (sym was.1) ∙ fresh in
    let none : refusal_of federates f ≡ None =
    ap (λ (o : Option RegistryRefusal). option_or o (duplicate_refusal_of (all_names federates) (names_of f))) plain ∙ no_duplicate in (
      subst IsRegistry (sym federates_are) (keeps_with federates f was.0 none),
      names_are ∙ ap (λ (ns : List GlobalName). ns ++ new) was.1 ∙ ap (λ (ns : List GlobalName). all_names federates ++ ns) new_is
          ∙ sym (names_with federates f) ∙ ap all_names (sym federates_are),
    )
