-- The interfaces of a federation by their references.
use Rattle.std.proofs.Common.{◌≡◌, inl, inr, ℕ, zero, suc, ◌+◌, ◌<◌, Bool, true, List, [], ◌∷◌, length, get_or, arith, refl, sym, ◌∙◌, ap, subst, Some}
use Rattle.std.specs.Str.{bytes_eq}
use Rattle.std.proofs.lemmas.Bool.{cases_Bool}
use Rattle.hel_lists.specs.Members.{IsIn}
use Rattle.hel_values.specs.declared.EndRef.{EndRef}
use Rattle.interface_names.specs.declared.records.FederateRecord.{FederateRecord}
use Rattle.federation_plan.specs.Interfaces.{Interface, one_in, interfaces_in, interfaces_from, named, federate_at, blank_federate, publication_of, endpoint_of, publications, endpoints, pub_name, end_name, IsPublication, IsEndpoint, ArePublications, AreEndpoints}
use Rattle.federation_plan.proofs.Lists.{in_append, append_left, append_right}
use Rattle.federation_plan.proofs.Named.{by_test, federate_within}

-- an interface stands where its reference says
pub record StandsAt {A : Type 0} (kind : FederateRecord → List A) (feds : List FederateRecord) (i : Interface A) : Type 0 where
  pub within : i.ref.index < length (kind (federate_at feds i.ref.fed))
  pub named : i.owner ≡ (federate_at feds i.ref.fed).name
  pub is : (d : A) → i.item ≡ get_or (kind (federate_at feds i.ref.fed)) i.ref.index d

-- of one federate, whose interfaces from number n on these are
record StandsIn {A : Type 0} (owner : List ℕ) (f n : ℕ) (xs : List A) (i : Interface A) : Type 0 where
  place : ℕ
  below : place < length xs
  fed : i.ref.fed ≡ f
  index : i.ref.index ≡ n + place
  named : i.owner ≡ owner
  item : (d : A) → i.item ≡ get_or xs place d

stands_in : {A : Type 0} (owner : List ℕ) (f n : ℕ) (xs : List A) (i : Interface A) → IsIn i (interfaces_in owner f n xs) → StandsIn owner f n xs i
stands_in owner f n [] i among = absurd among
stands_in {A} owner f n (x ∷ xs) i among = elim among [
  | inl here ↦ record {
    place = 0;
    below = omega arith;
    fed = ap (λ (j : Interface A). j.ref.fed) here;
    index = (let same : i.ref.index ≡ n = ap (λ (j : Interface A). j.ref.index) here in omega arith);
    named = ap (λ (j : Interface A). j.owner) here;
    item = λ d. ap (λ (j : Interface A). j.item) here;
  }
  | inr later ↦
      let rest = stands_in owner f (n + 1) xs i later in
      let below : rest.place < length xs = rest.below in
      let index : i.ref.index ≡ n + 1 + rest.place = rest.index in
      record { place = suc rest.place; below = omega arith; fed = rest.fed; index = omega arith; named = rest.named; item = rest.item }
]

-- of all federates, of which these are those from number f on
record StandsFrom {A : Type 0} (kind : FederateRecord → List A) (f : ℕ) (feds : List FederateRecord) (i : Interface A) : Type 0 where
  place : ℕ
  below : place < length feds
  fed : i.ref.fed ≡ f + place
  at : (d : FederateRecord) → StandsIn (get_or feds place d).name i.ref.fed 0 (kind (get_or feds place d)) i

stands_from : {A : Type 0} (kind : FederateRecord → List A) (f : ℕ) (feds : List FederateRecord) (i : Interface A) → IsIn i (interfaces_from kind f feds) → StandsFrom kind f feds i
stands_from kind f [] i among = absurd among
stands_from {A} kind f (x ∷ xs) i among = elim (in_append (interfaces_in x.name f 0 (kind x)) (interfaces_from kind (f + 1) xs) i among) [
  | inl here ↦
      let is = stands_in x.name f 0 (kind x) i here in
      record {
        place = 0;
        below = omega arith;
        fed = (let same : i.ref.fed ≡ f = is.fed in omega arith);
        at = λ d. subst (λ (g : ℕ). StandsIn x.name g 0 (kind x) i) (sym is.fed) is;
      }
  | inr later ↦
      let rest = stands_from kind (f + 1) xs i later in
      let below : rest.place < length xs = rest.below in
      let fed : i.ref.fed ≡ f + 1 + rest.place = rest.fed in
      record { place = suc rest.place; below = omega arith; fed = omega arith; at = rest.at }
]

pub stands_at : {A : Type 0} (kind : FederateRecord → List A) (feds : List FederateRecord) (i : Interface A) → IsIn i (interfaces_from kind 0 feds) → StandsAt kind feds i
stands_at {A} kind feds i among =
    let from = stands_from kind 0 feds i among in
    let place : from.place ≡ i.ref.fed = (let fed : i.ref.fed ≡ 0 + from.place = from.fed in omega arith) in
    let at : StandsIn (federate_at feds i.ref.fed).name i.ref.fed 0 (kind (federate_at feds i.ref.fed)) i =
    subst (λ (p : ℕ). StandsIn (get_or feds p blank_federate).name i.ref.fed 0 (kind (get_or feds p blank_federate)) i) place (from.at blank_federate) in
    let same : at.place ≡ i.ref.index = (let index : i.ref.index ≡ 0 + at.place = at.index in omega arith) in
    record {
      within = subst (λ (p : ℕ). p < length (kind (federate_at feds i.ref.fed))) same at.below;
      named = at.named;
      is = λ d. at.item d ∙ ap (λ (p : ℕ). get_or (kind (federate_at feds i.ref.fed)) p d) same;
    }

-- each interface of a federate is one of the list
among_in : {A : Type 0} (owner : List ℕ) (f n k : ℕ) (xs : List A) (d : A) → k < length xs → IsIn (one_in owner f (n + k) (get_or xs k d)) (interfaces_in owner f n xs)
among_in owner f n k [] d below = absurd (omega arith)
among_in {A} owner f n zero (x ∷ xs) d below = inl (ap (λ (m : ℕ). one_in owner f m x) (let e : n + 0 ≡ n = omega arith in e))
among_in {A} owner f n (suc k) (x ∷ xs) d below =
    inr (subst (λ (m : ℕ). IsIn (one_in owner f m (get_or xs k d)) (interfaces_in owner f (n + 1) xs)) (let e : n + 1 + k ≡ n + suc k = omega arith in e)
    (among_in owner f (n + 1) k xs d (omega arith)))

among_from : {A : Type 0} (kind : FederateRecord → List A) (f k : ℕ) (feds : List FederateRecord) (i : Interface A) (d : FederateRecord) → k < length feds →
    IsIn i (interfaces_in (get_or feds k d).name (f + k) 0 (kind (get_or feds k d))) → IsIn i (interfaces_from kind f feds)
among_from kind f k [] i d below among = absurd (omega arith)
among_from {A} kind f zero (x ∷ xs) i d below among =
    append_left _ _ i (subst (λ (m : ℕ). IsIn i (interfaces_in x.name m 0 (kind x))) (let e : f + 0 ≡ f = omega arith in e) among)
among_from {A} kind f (suc k) (x ∷ xs) i d below among =
    append_right (interfaces_in x.name f 0 (kind x)) _ i (among_from kind (f + 1) k xs i d (omega arith)
    (subst (λ (m : ℕ). IsIn i (interfaces_in (get_or xs k d).name m 0 (kind (get_or xs k d)))) (let e : f + suc k ≡ f + 1 + k = omega arith in e) among))

pub among_all : {A : Type 0} (kind : FederateRecord → List A) (feds : List FederateRecord) (r : EndRef) (d : A) → kind blank_federate ≡ [] → r.index < length (kind (federate_at feds r.fed)) →
    IsIn (one_in (federate_at feds r.fed).name r.fed r.index (get_or (kind (federate_at feds r.fed)) r.index d)) (interfaces_from kind 0 feds)
among_all {A} kind feds r d none within =
    let known : r.fed < length feds = federate_within kind feds r.fed r.index none within in
    among_from kind 0 r.fed feds _ blank_federate known
    (subst (λ (m : ℕ). IsIn (one_in (federate_at feds r.fed).name r.fed r.index (get_or (kind (federate_at feds r.fed)) r.index d)) (interfaces_in (federate_at feds r.fed).name m 0 (kind (federate_at feds r.fed))))
    (let e : r.fed ≡ 0 + r.fed = omega arith in e)
    (subst (λ (m : ℕ). IsIn (one_in (federate_at feds r.fed).name r.fed m (get_or (kind (federate_at feds r.fed)) r.index d)) (interfaces_in (federate_at feds r.fed).name r.fed 0 (kind (federate_at feds r.fed))))
    (let e : 0 + r.index ≡ r.index = omega arith in e)
    (among_in (federate_at feds r.fed).name r.fed 0 r.index (kind (federate_at feds r.fed)) d within)))

-- who is found by a name is one of the list and has the name
pub record IsNamed {A : Type 0} (name_of : Interface A → List ℕ) (name : List ℕ) (is : List (Interface A)) (r : EndRef) : Type 0 where
  pub one : Interface A
  pub among : IsIn one is
  pub called : bytes_eq name (name_of one) ≡ true
  pub same : one.ref ≡ r

pub named_is : {A : Type 0} (name_of : Interface A → List ℕ) (name : List ℕ) (is : List (Interface A)) (r : EndRef) → named name_of name is ≡ Some r → IsNamed name_of name is r
named_is name_of name [] r found = absurd (cc)
named_is {A} name_of name (i ∷ is) r found = elim (cases_Bool (bytes_eq name (name_of i))) [
  | inl holds ↦
      let here : Some i.ref ≡ Some r = sym (ap (λ (b : Bool). by_test i name_of name is b) holds) ∙ found in
      record { one = i; among = inl refl; called = holds; same = cc }
  | inr fails ↦
      let rest = named_is name_of name is r (sym (ap (λ (b : Bool). by_test i name_of name is b) fails) ∙ found) in
      record { one = rest.one; among = inr rest.among; called = rest.called; same = rest.same }
]

pub endpoints_known : (feds : List FederateRecord) → AreEndpoints feds (endpoint_of feds)
unfolding endpoint_of
endpoints_known feds name r found =
    let is = named_is end_name name (endpoints feds) r found in
    subst (λ (q : EndRef). IsEndpoint feds q) is.same (stands_at (λ (f : FederateRecord). f.endpoints) feds is.one is.among).within

pub publications_known : (feds : List FederateRecord) → ArePublications feds (publication_of feds)
unfolding publication_of
publications_known feds name r found =
    let is = named_is pub_name name (publications feds) r found in
    subst (λ (q : EndRef). IsPublication feds q) is.same (stands_at (λ (f : FederateRecord). f.publications) feds is.one is.among).within
