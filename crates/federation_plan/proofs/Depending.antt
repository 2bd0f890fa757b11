-- The links that interfaces make are the dependencies.
use Rattle.std.proofs.Common.{◌≡◌, ◌⊎◌, inl, inr, ℕ, ◌<◌, Bool, true, false, List, [], ◌∷◌, length, arith, refl, sym, ◌∙◌, ap, subst, Option, Some, None, eq-eqb}
use Rattle.std.specs.Prelude.{if◌then◌else◌, ◌||◌, ◌&&◌, not, nat_eq, is_none, unwrap_or}
use Rattle.std.specs.List.{list_any, filter_map, cons_option, last_or}
use Rattle.std.proofs.lemmas.Bool.{cases_Bool, true≢false, or_cases, or_left, or_right, and_from, and_parts, eqb-true, lt-ltb, ltb-true}
use Rattle.hel_lists.specs.Members.{IsIn}
use Rattle.hel_lists.proofs.Members.{in_map, in_filter}
use Rattle.hel_values.specs.declared.EndRef.{EndRef}
use Rattle.interface_names.specs.declared.records.EndRecord.{EndRecord}
use Rattle.interface_names.specs.declared.records.FilterKind.{FilterKind}
use Rattle.interface_names.specs.declared.records.FilterKind.TheVariants.{Delay, Drop, Reroute}
use Rattle.interface_names.specs.declared.records.FederateRecord.{FederateRecord}
use Rattle.interface_names.specs.Filter.{FilterTerms}
use Rattle.message_filters.specs.Filter.{reroute_of}
use Rattle.federation_plan.specs.declared.refusal.PlanRefusal.TheVariants.{FilterTarget}
use Rattle.federation_plan.specs.Interfaces.{Interface, is_ref, is_of, name_ref, name_fed, naming, endpoint_of, publication_of, inputs, filters, endpoints, federate_at, endpoint_at, blank_endpoint, IsEndpoint}
use Rattle.federation_plan.specs.Chains.{reroutes, filter_of, sources, source_chain}
use Rattle.federation_plan.specs.Depends.{last_reroute, reaches_by, reaches, by_value, by_message, depends}
use Rattle.federation_plan.specs.Links.{takes, sends, sends_to, is_sender, hears, has_endpoint}
use Rattle.federation_plan.specs.Refusal.{target_at, reroute_refusal}
use Rattle.dependency_paths.specs.Paths.{AreAncestors}
use Rattle.federation_plan.proofs.Drafts.{same_meaning}
use Rattle.federation_plan.proofs.Lists.{any_to, any_from, same_test}
use Rattle.federation_plan.proofs.Accepted.{IsAccepted, none_asks, both_none}
use Rattle.federation_plan.proofs.Attached.{same_itself, same_is}
use Rattle.federation_plan.proofs.Joined.{or_assoc}
use Rattle.federation_plan.proofs.Places.{stands_at, among_all, endpoints_known}

-- the last of a list is a member
last_in : (rs : List EndRef) (r : EndRef) → last_or None rs ≡ Some r → IsIn r rs
last_in [] r is = absurd (cc)
last_in (x ∷ xs) r is = go x xs is
  where
    go : (x : EndRef) (xs : List EndRef) → last_or (Some x) xs ≡ Some r → IsIn r (x ∷ xs)
    go x [] is = inl (let same : r ≡ x = cc in same)
    go x (y ∷ ys) is = inr (go y ys is)

-- a member of what a test gives comes from a member
pub from_member : {A B : Type 0} (h : A → Option B) (xs : List A) (y : B) → IsIn y (filter_map h xs) → (x : A) × IsIn x xs × (h x ≡ Some y)
from_member h [] y among = absurd among
from_member {A} {B} h (x ∷ xs) y among = go (h x) refl (from_member h xs y) among
  where
    go : (o : Option B) → h x ≡ o → (IsIn y (filter_map h xs) → (a : A) × IsIn a xs × (h a ≡ Some y)) →
        IsIn y (cons_option o (filter_map h xs)) → (a : A) × IsIn a (x ∷ xs) × (h a ≡ Some y)
    go None is more rest = let m = more rest in (m.0, inr m.1, m.2)
    go (Some z) is more rest = elim rest [
      | inl here ↦ (x, inl refl, is ∙ ap (λ (b : B). Some b) (sym here))
      | inr later ↦ let m = more later in (m.0, inr m.1, m.2)
    ]

-- a filter that reroutes does so to an endpoint
pub reroute_known : (feds : List FederateRecord) (kind : FilterKind) (r : EndRef) → reroute_refusal (endpoint_of feds) kind ≡ None → reroute_of (filter_of (endpoint_of feds) kind) ≡ Some r → IsEndpoint feds r
reroute_known feds (Delay delay) r none is = absurd (cc)
reroute_known feds (Drop per_million seed) r none is = absurd (cc)
reroute_known feds (Reroute name) r none is = go (endpoint_of feds name) refl none is
  where
    go : (o : Option EndRef) → endpoint_of feds name ≡ o → (if is_none o then Some (FilterTarget name) else None) ≡ None → Some (unwrap_or o (record { fed = 0; index = 0 })) ≡ Some r → IsEndpoint feds r
    go None means none' is' = absurd (cc)
    go (Some q) means none' is' = subst (IsEndpoint feds) (let same : q ≡ r = cc in same) (endpoints_known feds name q means)

-- so does a source chain
pub last_known : (feds : List FederateRecord) (e r : EndRef) → IsAccepted feds → last_reroute (source_chain feds e) ≡ Some r → IsEndpoint feds r
unfolding source_chain
last_known feds e r accepted is =
    let filter = from_member reroute_of (source_chain feds e) r (last_in (reroutes (source_chain feds e)) r is) in
    let one = in_map (λ (i : Interface FilterTerms). filter_of (endpoint_of feds) i.item.kind) (naming (endpoint_of feds) sources (filters feds) e) filter.0 filter.1 in
    let within = in_filter (λ (i : Interface FilterTerms). _) (filters feds) one.0 one.1 in
    let none = none_asks (target_at (endpoint_of feds)) (filters feds) one.0 accepted.targets within.0 in
    reroute_known feds one.0.item.kind r (both_none _ _ (both_none _ _ none).1).1 (sym (ap reroute_of one.2) ∙ filter.2)

-- an endpoint by its reference is one of the list
pub endpoint_listed : (feds : List FederateRecord) (r : EndRef) → IsEndpoint feds r → IsIn (endpoint_at feds r) (endpoints feds)
endpoint_listed feds r within = among_all (λ (f : FederateRecord). f.endpoints) feds r blank_endpoint refl within

-- who has an endpoint on the list has endpoints
has_some : (feds : List FederateRecord) (f : ℕ) (x : Interface EndRecord) → IsIn x (endpoints feds) → nat_eq f x.ref.fed ≡ true → has_endpoint feds f ≡ true
has_some feds f x listed same =
    let within = (stands_at (λ (g : FederateRecord). g.endpoints) feds x listed).within in
    let is : x.ref.fed ≡ f = sym (eqb-true f x.ref.fed same) in
    let some : x.ref.index < length (federate_at feds f).endpoints = subst (λ (g : ℕ). x.ref.index < length (federate_at feds g).endpoints) is within in
    lt-ltb 0 (length (federate_at feds f).endpoints) (omega arith)

-- a name that means an endpoint of f
pub from_name : (m : List ℕ → Option EndRef) (names : List (List ℕ)) (f : ℕ) → name_fed m names f ≡ true → (name : List ℕ) × (q : EndRef) × IsIn name names × (m name ≡ Some q) × (nat_eq f q.fed ≡ true)
from_name m names f holds =
    let one = any_from (λ (name : List ℕ). is_of f (m name)) names holds in
    go one.0 one.1 (m one.0) refl one.2
  where
    go : (name : List ℕ) → IsIn name names → (o : Option EndRef) → m name ≡ o → is_of f o ≡ true → (n : List ℕ) × (q : EndRef) × IsIn n names × (m n ≡ Some q) × (nat_eq f q.fed ≡ true)
    go name listed None means holds' = absurd (true≢false (sym holds'))
    go name listed (Some q) means holds' = (name, q, listed, means, holds')

-- a name that means this reference
pub from_ref : (m : List ℕ → Option EndRef) (names : List (List ℕ)) (r : EndRef) → name_ref m names r ≡ true → (name : List ℕ) × IsIn name names × (m name ≡ Some r)
from_ref m names r holds =
    let one = any_from (λ (name : List ℕ). is_ref r (m name)) names holds in
    (one.0, one.1, go (m one.0) one.2)
  where
    go : (o : Option EndRef) → is_ref r o ≡ true → o ≡ Some r
    go None holds' = absurd (true≢false (sym holds'))
    go (Some q) holds' = ap (λ (x : EndRef). Some x) (sym (same_is r q holds'))

to_ref : (m : List ℕ → Option EndRef) (names : List (List ℕ)) (name : List ℕ) (r : EndRef) → IsIn name names → m name ≡ Some r → name_ref m names r ≡ true
to_ref m names name r listed means = any_to (λ (n : List ℕ). is_ref r (m n)) names name listed (ap (is_ref r) means ∙ same_itself r)

pub to_fed : (m : List ℕ → Option EndRef) (names : List (List ℕ)) (name : List ℕ) (r : EndRef) (f : ℕ) → IsIn name names → m name ≡ Some r → nat_eq f r.fed ≡ true → name_fed m names f ≡ true
to_fed m names name r f listed means same = any_to (λ (n : List ℕ). is_of f (m n)) names name listed (ap (is_of f) means ∙ same)

-- three tests, of which one holds
first_of : (a b c : Bool) → a ≡ true → (a || b || c) ≡ true
first_of true b c holds = refl
first_of false b c holds = absurd (true≢false (sym holds))

second_of : (a b c : Bool) → b ≡ true → (a || b || c) ≡ true
second_of true b c holds = refl
second_of false true c holds = refl
second_of false false c holds = absurd (true≢false (sym holds))

third_of : (a b c : Bool) → c ≡ true → (a || b || c) ≡ true
third_of true b c holds = refl
third_of false true c holds = refl
third_of false false c holds = holds

one_of : (a b c : Bool) → (a || b || c) ≡ true → (a ≡ true) ⊎ (b ≡ true) ⊎ (c ≡ true)
one_of true b c holds = inl refl
one_of false true c holds = inr (inl refl)
one_of false false c holds = inr (inr holds)

none_is : (o : Option EndRef) → is_none o ≡ true → o ≡ None
none_is None holds = refl
none_is (Some r) holds = absurd (true≢false (sym holds))

module _ (feds : List FederateRecord) where
  -- the endpoint of the last reroute
  abbrev pub rerouted : EndRef → Option EndRef
  rerouted e = last_reroute (source_chain feds e)

  -- a pair that makes a dependency by a message
  pub reached : (a f : ℕ) (e x : Interface EndRecord) → IsIn e (endpoints feds) → IsIn x (endpoints feds) → nat_eq a e.ref.fed ≡ true → nat_eq f x.ref.fed ≡ true → reaches feds e x ≡ true →
      by_message feds a f ≡ true
  reached a f e x listed listed' from to holds =
      any_to (λ (e : Interface EndRecord). nat_eq a e.ref.fed && list_any (λ x. nat_eq f x.ref.fed && reaches feds e x) (endpoints feds)) (endpoints feds) e listed
      (and_from (nat_eq a e.ref.fed) _ from
      (any_to (λ (x : Interface EndRecord). nat_eq f x.ref.fed && reaches feds e x) (endpoints feds) x listed' (and_from (nat_eq f x.ref.fed) (reaches feds e x) to holds)))

  -- an endpoint that sends to f reaches one of f
  sender_reaches : IsAccepted feds → (a f : ℕ) (e : Interface EndRecord) → IsIn e (endpoints feds) → sends (endpoint_of feds) feds rerouted a f e ≡ true → by_message feds a f ≡ true
  sender_reaches accepted a f e listed holds =
      let parts = and_parts (nat_eq a e.ref.fed) _ holds in go parts.0 (rerouted e.ref) refl parts.1
    where
      go : nat_eq a e.ref.fed ≡ true → (o : Option EndRef) → rerouted e.ref ≡ o → sends_to (endpoint_of feds) feds o e.item f ≡ true → by_message feds a f ≡ true
      go from (Some r) is to =
          reached a f e (endpoint_at feds r) listed (endpoint_listed feds r (last_known feds e.ref r accepted is)) from to
          (ap (λ (o : Option EndRef). reaches_by (endpoint_of feds) o e (endpoint_at feds r)) is ∙ same_itself r)
      go from None is to = elim (cases_Bool e.item.targeted) [
        | inl targeted ↦
            let name = from_name (endpoint_of feds) e.item.destination_targets f (sym (ap (λ (b : Bool). if b then name_fed (endpoint_of feds) e.item.destination_targets f else has_endpoint feds f) targeted) ∙ to) in
            let q = name.1 in
            reached a f e (endpoint_at feds q) listed (endpoint_listed feds q (endpoints_known feds name.0 q name.3)) from name.4
            (ap (λ (o : Option EndRef). reaches_by (endpoint_of feds) o e (endpoint_at feds q)) is
            ∙ second_of (not e.item.targeted) _ _ (to_ref (endpoint_of feds) e.item.destination_targets name.0 q name.2 name.3))
        | inr free ↦
            let some : has_endpoint feds f ≡ true = sym (ap (λ (b : Bool). if b then name_fed (endpoint_of feds) e.item.destination_targets f else has_endpoint feds f) free) ∙ to in
            let q : EndRef = record { fed = f; index = 0 } in
            reached a f e (endpoint_at feds q) listed (endpoint_listed feds q (ltb-true 0 (length (federate_at feds f).endpoints) some)) from (eq-eqb f f refl)
            (ap (λ (o : Option EndRef). reaches_by (endpoint_of feds) o e (endpoint_at feds q)) is
            ∙ first_of (not e.item.targeted) _ _ (ap not free))
      ]

  -- an endpoint that names one of a among its sources is reached by it
  hearer_reached : (a f : ℕ) (x : Interface EndRecord) → IsIn x (endpoints feds) → hears (endpoint_of feds) rerouted a f x ≡ true → by_message feds a f ≡ true
  hearer_reached a f x listed holds =
      let parts = and_parts (nat_eq f x.ref.fed) _ holds in
      let one = any_from (λ (name : List ℕ). is_sender rerouted a (endpoint_of feds name)) x.item.source_targets parts.1 in
      go parts.0 one.0 one.1 (endpoint_of feds one.0) refl one.2
    where
      go : nat_eq f x.ref.fed ≡ true → (name : List ℕ) → IsIn name x.item.source_targets → (o : Option EndRef) → endpoint_of feds name ≡ o → is_sender rerouted a o ≡ true → by_message feds a f ≡ true
      go to name named None means holds' = absurd (true≢false (sym holds'))
      go to name named (Some e) means holds' =
          let parts = and_parts (nat_eq a e.fed) (is_none (rerouted e)) holds' in
          reached a f (endpoint_at feds e) x (endpoint_listed feds e (endpoints_known feds name e means)) listed parts.0 to
          (ap (λ (o : Option EndRef). reaches_by (endpoint_of feds) o (endpoint_at feds e) x) (none_is (rerouted e) parts.1)
          ∙ third_of (not (endpoint_at feds e).item.targeted) _ _ (to_ref (endpoint_of feds) x.item.source_targets name e named means))

  -- who reaches one of f sends to f, or is heard by it
  reacher_linked : (a f : ℕ) → by_message feds a f ≡ true →
      (list_any (sends (endpoint_of feds) feds rerouted a f) (endpoints feds) || list_any (hears (endpoint_of feds) rerouted a f) (endpoints feds)) ≡ true
  reacher_linked a f holds =
      let e = any_from (λ (e : Interface EndRecord). nat_eq a e.ref.fed && list_any (λ x. nat_eq f x.ref.fed && reaches feds e x) (endpoints feds)) (endpoints feds) holds in
      let from = and_parts (nat_eq a e.0.ref.fed) _ e.2 in
      let x = any_from (λ (x : Interface EndRecord). nat_eq f x.ref.fed && reaches feds e.0 x) (endpoints feds) from.1 in
      let to = and_parts (nat_eq f x.0.ref.fed) (reaches feds e.0 x.0) x.2 in
      go e.0 x.0 e.1 x.1 from.0 to.0 (rerouted e.0.ref) refl to.1
    where
      by_sender : (e : Interface EndRecord) → IsIn e (endpoints feds) → nat_eq a e.ref.fed ≡ true → (o : Option EndRef) → rerouted e.ref ≡ o → sends_to (endpoint_of feds) feds o e.item f ≡ true →
          (list_any (sends (endpoint_of feds) feds rerouted a f) (endpoints feds) || list_any (hears (endpoint_of feds) rerouted a f) (endpoints feds)) ≡ true
      by_sender e listed from o is to =
          or_left (list_any (sends (endpoint_of feds) feds rerouted a f) (endpoints feds)) _
          (any_to (sends (endpoint_of feds) feds rerouted a f) (endpoints feds) e listed
          (and_from (nat_eq a e.ref.fed) _ from (ap (λ (o : Option EndRef). sends_to (endpoint_of feds) feds o e.item f) is ∙ to)))

      go : (e x : Interface EndRecord) → IsIn e (endpoints feds) → IsIn x (endpoints feds) → nat_eq a e.ref.fed ≡ true → nat_eq f x.ref.fed ≡ true → (o : Option EndRef) → rerouted e.ref ≡ o →
          reaches_by (endpoint_of feds) (rerouted e.ref) e x ≡ true →
          (list_any (sends (endpoint_of feds) feds rerouted a f) (endpoints feds) || list_any (hears (endpoint_of feds) rerouted a f) (endpoints feds)) ≡ true
      go e x listed listed' from to (Some r) is holds' =
          let same : x.ref ≡ r = same_is x.ref r (sym (ap (λ (o : Option EndRef). reaches_by (endpoint_of feds) o e x) is) ∙ holds') in
          by_sender e listed from (Some r) is (ap (λ (q : EndRef). nat_eq f q.fed) (sym same) ∙ to)
      go e x listed listed' from to None is holds' =
          elim (one_of (not e.item.targeted) (name_ref (endpoint_of feds) e.item.destination_targets x.ref) (name_ref (endpoint_of feds) x.item.source_targets e.ref)
          (sym (ap (λ (o : Option EndRef). reaches_by (endpoint_of feds) o e x) is) ∙ holds')) [
            | inl free ↦ by_sender e listed from None is (at_free (not_not e.item.targeted free))
            | inr rest ↦ elim rest [
              | inl target ↦ elim (cases_Bool e.item.targeted) [
                | inl targeted ↦
                    let name = from_ref (endpoint_of feds) e.item.destination_targets x.ref target in
                    by_sender e listed from None is
                    (ap (λ (b : Bool). if b then name_fed (endpoint_of feds) e.item.destination_targets f else has_endpoint feds f) targeted
                    ∙ to_fed (endpoint_of feds) e.item.destination_targets name.0 x.ref f name.1 name.2 to)
                | inr free ↦ by_sender e listed from None is (at_free free)
              ]
              | inr source ↦
                  let name = from_ref (endpoint_of feds) x.item.source_targets e.ref source in
                  or_right (list_any (sends (endpoint_of feds) feds rerouted a f) (endpoints feds)) _
                  (any_to (hears (endpoint_of feds) rerouted a f) (endpoints feds) x listed'
                  (and_from (nat_eq f x.ref.fed) _ to
                  (any_to (λ (n : List ℕ). is_sender rerouted a (endpoint_of feds n)) x.item.source_targets name.0 name.1
                  (ap (is_sender rerouted a) name.2 ∙ and_from (nat_eq a e.ref.fed) (is_none (rerouted e.ref)) from (ap is_none is)))))
            ]
          ]
        where
          not_not : (b : Bool) → not b ≡ true → b ≡ false
          not_not true h = absurd (true≢false (sym h))
          not_not false h = refl

          at_free : e.item.targeted ≡ false → sends_to (endpoint_of feds) feds None e.item f ≡ true
          at_free free = ap (λ (b : Bool). if b then name_fed (endpoint_of feds) e.item.destination_targets f else has_endpoint feds f) free ∙ has_some feds f x listed' to

  -- the links of all interfaces are the dependencies
  pub links_are : IsAccepted feds → (a f : ℕ) →
      ((by_value feds a f || list_any (sends (endpoint_of feds) feds rerouted a f) (endpoints feds)) || list_any (hears (endpoint_of feds) rerouted a f) (endpoints feds)) ≡ depends feds a f
  unfolding depends
  links_are accepted a f =
      let sent = list_any (sends (endpoint_of feds) feds rerouted a f) (endpoints feds) in
      let heard = list_any (hears (endpoint_of feds) rerouted a f) (endpoints feds) in
      or_assoc (by_value feds a f) sent heard ∙ ap (λ (b : Bool). by_value feds a f || b) (same_test (sent || heard) (by_message feds a f)
      (λ holds. elim (or_cases sent heard holds) [
        | inl one ↦ let e = any_from (sends (endpoint_of feds) feds rerouted a f) (endpoints feds) one in sender_reaches accepted a f e.0 e.1 e.2
        | inr one ↦ let x = any_from (hears (endpoint_of feds) rerouted a f) (endpoints feds) one in hearer_reached a f x.0 x.1 x.2
      ])
      (reacher_linked a f))

-- the links that were made one kind after another are the dependencies
pub joined_are : (feds : List FederateRecord) (pubs ends : List ℕ → Option EndRef) (last : EndRef → Option EndRef) (l m n o : ℕ → ℕ → Bool) → IsAccepted feds →
    ((name : List ℕ) → pubs name ≡ publication_of feds name) → ((name : List ℕ) → ends name ≡ endpoint_of feds name) → ((e : EndRef) → last e ≡ rerouted feds e) →
    ((a f : ℕ) → l a f ≡ false) → ((a f : ℕ) → m a f ≡ (l a f || list_any (takes pubs a f) (inputs feds))) →
    ((a f : ℕ) → n a f ≡ (m a f || list_any (sends ends feds last a f) (endpoints feds))) →
    ((a f : ℕ) → o a f ≡ (n a f || list_any (hears ends last a f) (endpoints feds))) → o ≡ depends feds
joined_are feds pubs ends last l m n o accepted p e r none first second third =
    let pubs_are : pubs ≡ publication_of feds = same_meaning pubs (publication_of feds) p in
    let ends_are : ends ≡ endpoint_of feds = same_meaning ends (endpoint_of feds) e in
    let last_is : last ≡ rerouted feds = same_meaning last (rerouted feds) r in
    let each : (a f : ℕ) → o a f ≡ depends feds a f = λ a f.
    third a f
    ∙ ap (λ (b : Bool). b || list_any (hears ends last a f) (endpoints feds)) (second a f
    ∙ ap (λ (b : Bool). b || list_any (sends ends feds last a f) (endpoints feds)) (first a f
    ∙ ap (λ (b : Bool). b || list_any (takes pubs a f) (inputs feds)) (none a f)
    ∙ ap (λ (means : List ℕ → Option EndRef). list_any (takes means a f) (inputs feds)) pubs_are)
    ∙ ap (λ (means : List ℕ → Option EndRef). by_value feds a f || list_any (sends means feds last a f) (endpoints feds)) ends_are
    ∙ ap (λ (ending : EndRef → Option EndRef). by_value feds a f || list_any (sends (endpoint_of feds) feds ending a f) (endpoints feds)) last_is)
    ∙ ap (λ (means : List ℕ → Option EndRef). (by_value feds a f || list_any (sends (endpoint_of feds) feds (rerouted feds) a f) (endpoints feds)) || list_any (hears means last a f) (endpoints feds)) ends_are
    ∙ ap (λ (ending : EndRef → Option EndRef). (by_value feds a f || list_any (sends (endpoint_of feds) feds (rerouted feds) a f) (endpoints feds)) || list_any (hears (endpoint_of feds) ending a f) (endpoints feds)) last_is
    ∙ links_are feds accepted a f
    in same_meaning o (depends feds) (λ a. same_meaning (o a) (depends feds a) (each a))

-- ancestors along those links
pub ancestors_are : (feds : List FederateRecord) (count : ℕ) (links : ℕ → ℕ → Bool) (rows : List (List ℕ)) → count ≡ length feds → links ≡ depends feds → AreAncestors count links rows →
    AreAncestors (length feds) (depends feds) rows
ancestors_are feds count links rows many are closed =
    subst (λ (n : ℕ). AreAncestors n (depends feds) rows) many (subst (λ (l : ℕ → ℕ → Bool). AreAncestors count l rows) are closed)
