-- What the calls of a plan send: the laws of the machine hold of it.
use Rattle.std.proofs.Common.{◌≡◌, ◌≢◌, ◌⊎◌, inl, inr, ℕ, ◌+◌, ◌*◌, ◌^◌, ◌<◌, ◌≤◌, true, List, length, arith, refl, sym, ◌∙◌, ap, subst, Option, Some, None}
use Rattle.std.specs.Prelude.{option_to_list, option_and_then, map}
use Rattle.std.proofs.lemmas.Bool.{cases_Bool, cases_eq, cases_lt}
use Rattle.std.proofs.lemmas.Option.{slice_get-get_or, slice_get_past}
use Rattle.hel_lists.specs.Members.{IsIn, Each}
use Rattle.hel_lists.proofs.Members.{in_map, at_in}
use Rattle.helics_time.specs.Settings.{Terms, IsTerms}
use Rattle.hel_values.specs.declared.EndRef.{EndRef}
use Rattle.hel_values.specs.declared.Value.{Value}
use Rattle.interface_names.specs.declared.records.PubRecord.{PubRecord}
use Rattle.interface_names.specs.declared.records.EndRecord.{EndRecord}
use Rattle.interface_names.specs.declared.records.FederateRecord.{FederateRecord}
use Rattle.message_filters.specs.declared.chain.Filtered.{Filtered}
use Rattle.message_filters.specs.declared.chain.Filtered.TheVariants.{Kept, Dropped}
use Rattle.helics_time.specs.Time.{longest_span}
use Rattle.message_filters.specs.Limits.{most_filters}
use Rattle.dependency_paths.specs.Paths.{row_of}
use Rattle.dependency_paths.specs.Paths.Leads.{by_link}
use Rattle.dependency_paths.proofs.Ancestry.{ancestor_laws}
use Rattle.tree_facts.specs.Tree.{IsTree}
use Rattle.tree_facts.proofs.Cuts.{hop_is}
use Rattle.machine_laws.specs.Plan.{Call, Leg, legs_of, IsPlan}
use Rattle.machine_laws.specs.Plan.Call.{publish, send}
use Rattle.machine_laws.specs.declared.refusal.CallRefusal.TheVariants.{NotOwner, NotATarget}
use Rattle.machine_laws.proofs.FirstBy.{first_laws}
use Rattle.federation_plan.specs.Interfaces.{IsEndpoint, IsPublication, blank_endpoint, endpoint_at, endpoint_of, federate_at}
use Rattle.federation_plan.specs.Chains.{may_send, filtered_at}
use Rattle.federation_plan.specs.Depends.{depends}
use Rattle.federation_plan.specs.Refusal.{refusal_of}
use Rattle.federation_plan.specs.Tree.{parents_of}
use Rattle.federation_plan.specs.Plan.{Federation, IsFederation, targets_of, core_at}
use Rattle.federation_plan.specs.Wires.{delay_between, kind_objection, leg_to, endpoint_in, name_meant, destined, message_leg, message_to, message_by, objection, send_objection, target_objection, wires_of}
use Rattle.federation_plan.specs.Laws.{IsLeg, IsSend, PlanLaws}
use Rattle.federation_plan.proofs.Named.{federate_within}
use Rattle.federation_plan.proofs.Places.{endpoints_known, publications_known}
use Rattle.federation_plan.proofs.Accepted.{IsAccepted, accepted, both_none}
use Rattle.federation_plan.proofs.Sent.{terms_at, source_short, destination_short, no_reroutes, Arrives, arrives, end_known, end_reached, message_depends, value_depends, target_known, ancestor_within}
use Rattle.federation_plan.proofs.Trees.{tree_is, core_known, hop_within}

is_accepted : (p : Federation) → IsFederation p → IsAccepted p.federates
unfolding refusal_of
is_accepted p is = accepted p.federates (both_none _ _ is.no_refusal).1

-- who depends is the federate itself or has it among its ancestors
among_ancestors : (p : Federation) (a f : ℕ) → IsFederation p → depends p.federates a f ≡ true → (f ≡ a) ⊎ IsIn a (row_of p.ancestors f)
among_ancestors p a f is linked = elim (cases_eq f a) [
  | inl own ↦ inl own
  | inr other ↦ inr ((is.closed.exact a f).1 ((λ same. other (sym same)), by_link a f linked))
]

-- ---- legs

-- a leg of a call of a
record IsSent (p : Federation) (a : ℕ) (leg : Leg) : Type 0 where
  pub is : IsLeg p.federates a leg
  pub link : depends p.federates a leg.target ≡ true
  pub most : leg.delay ≤ delay_between p.federates a leg.target + 2 * (most_filters * longest_span)

value_leg : (p : Federation) (publication input : EndRef) (value : Value) → IsIn input (targets_of p.federates publication) → IsSent p publication.fed (leg_to p.federates publication value input)
value_leg p publication input value among = record {
  is = record {
    to = federate_within (λ (f : FederateRecord). f.inputs) p.federates input.fed input.index refl (target_known p.federates publication input among).0;
    known = λ time. target_known p.federates publication input among;
    delayed = omega arith;
  };
  link = value_depends p.federates publication input among;
  most = omega arith;
}

message_leg_is : (p : Federation) (from to : EndRef) (sequence : ℕ) (payload : List ℕ) (leg : Leg) → IsFederation p → IsEndpoint p.federates from → IsEndpoint p.federates to →
    may_send p.federates from to ≡ true → message_leg p.federates from to payload (filtered_at p.federates from sequence to) ≡ Some leg → IsSent p from.fed leg
message_leg_is p from to sequence payload leg is known known' may sent = go (filtered_at p.federates from sequence to) refl sent
  where
    with_leg : (x : Leg) → Some x ≡ Some leg → IsSent p from.fed x → IsSent p from.fed leg
    with_leg x same one = subst (IsSent p from.fed) (let e : x ≡ leg = cc in e) one

    go : (o : Filtered) → filtered_at p.federates from sequence to ≡ o → message_leg p.federates from to payload o ≡ Some leg → IsSent p from.fed leg
    go (Dropped place) passed sent' = absurd (cc)
    go (Kept end delay) passed sent' =
        let fine = is_accepted p is in
        let at : Arrives p.federates from to end delay = arrives p.federates from to end sequence delay is.kept passed in
        let ends = end_known p.federates from to end fine known' at.ends in
        let late = at.late in
        let out = source_short p.federates from fine is.kept known in
        let into = destination_short p.federates end fine is.kept ends in
        with_leg _ sent' (record {
          is = record {
            to = federate_within (λ (f : FederateRecord). f.endpoints) p.federates end.fed end.index refl ends;
            known = λ time. (refl, ends, known, known, known');
            delayed = omega arith;
          };
          link = message_depends p.federates from end known ends (end_reached p.federates from to end may at.ends);
          most = omega (arith, late, out, into);
        })

-- a name that a send means is that of an endpoint
destined_known : (feds : List FederateRecord) (e : EndRecord) (name : List ℕ) (to : EndRef) → destined feds e name ≡ Some to → IsEndpoint feds to
destined_known feds e name to is = go (name_meant e name) is
  where
    go : (o : Option (List ℕ)) → option_and_then (endpoint_of feds) o ≡ Some to → IsEndpoint feds to
    go None is' = absurd (cc)
    go (Some n) is' = endpoints_known feds n to is'

-- who sends is an endpoint
sender_known : (feds : List FederateRecord) (from : EndRef) (e : EndRecord) → endpoint_in feds from.fed from.index ≡ Some e → IsEndpoint feds from
sender_known feds from e is = elim (cases_lt from.index (length (federate_at feds from.fed).endpoints)) [
  | inl within ↦ within
  | inr past ↦ let none : None ≡ Some e = sym (slice_get_past (federate_at feds from.fed).endpoints from.index past) ∙ is in absurd (cc)
]

send_leg : (p : Federation) (from : EndRef) (sequence : ℕ) (name payload : List ℕ) (leg : Leg) → IsFederation p →
    message_by p.federates from (endpoint_in p.federates from.fed from.index) sequence name payload ≡ Some leg → IsSent p from.fed leg
send_leg p from sequence name payload leg is sent = by (endpoint_in p.federates from.fed from.index) refl sent
  where
    to_one : (e : EndRecord) → IsEndpoint p.federates from → (o : Option EndRef) → destined p.federates e name ≡ o → message_to p.federates from sequence payload o ≡ Some leg → IsSent p from.fed leg
    to_one e known None means sent' = absurd (cc)
    to_one e known (Some to) means sent' = elim (cases_Bool (may_send p.federates from to)) [
      | inl may ↦ message_leg_is p from to sequence payload leg is known (destined_known p.federates e name to means) may (rw may at sent')
      | inr not ↦ let none : None ≡ Some leg = rw not at sent' in absurd (cc)
    ]

    by : (o : Option EndRecord) → endpoint_in p.federates from.fed from.index ≡ o → message_by p.federates from o sequence name payload ≡ Some leg → IsSent p from.fed leg
    by None at sent' = absurd (cc)
    by (Some e) at sent' = to_one e (sender_known p.federates from e at) (destined p.federates e name) refl sent'

in_option : {A : Type 0} (o : Option A) (x : A) → IsIn x (option_to_list o) → o ≡ Some x
in_option None x among = absurd among
in_option {A} (Some y) x among = elim among [ inl here ↦ ap (λ (z : A). Some z) (sym here) | inr none ↦ absurd none ]

leg_is : (p : Federation) (a sequence : ℕ) (call : Call) (leg : Leg) → IsFederation p → IsIn leg (legs_of (wires_of p) a sequence call) → IsSent p a leg
leg_is p a sequence (publish publication value) leg is among =
    let r : EndRef = record { fed = a; index = publication } in
    let m = in_map (leg_to p.federates r value) (targets_of p.federates r) leg among in
    subst (IsSent p a) (sym m.2) (value_leg p r m.0 value m.1)
leg_is p a sequence (send endpoint name payload) leg is among =
    let r : EndRef = record { fed = a; index = endpoint } in
    send_leg p r sequence name payload leg is (in_option (message_by p.federates r (endpoint_in p.federates a endpoint) sequence name payload) leg among)

leg_short : (p : Federation) (a : ℕ) (leg : Leg) → IsFederation p → IsSent p a leg → leg.delay < 2 ^ 61
leg_short p a leg is one =
    let out = (terms_at p.federates a is.kept).output_delay in
    let into = (terms_at p.federates leg.target is.kept).input_delay in
    let most = one.most in
    omega (arith, out, into, most)

-- ---- the laws

all_terms : (p : Federation) → IsFederation p → Each IsTerms (map (λ (f : FederateRecord). f.settings) p.federates)
all_terms p is s among =
    let m = in_map (λ (f : FederateRecord). f.settings) p.federates s among in subst (λ (t : Terms). IsTerms t) (sym m.2) (is.kept m.0 m.1).terms

closed : (p : Federation) (a b f : ℕ) → IsFederation p → IsIn a (row_of p.ancestors b) → IsIn b (row_of p.ancestors f) → a ≢ f → IsIn a (row_of p.ancestors f)
closed p a b f is = ancestor_laws.closed (length p.federates) (depends p.federates) p.ancestors a b f is.closed

pub plans_are : (p : Federation) → IsFederation p → IsPlan (wires_of p)
plans_are p is = record {
  settings = all_terms p is;
  stamps = λ a s. first_laws.stamps 0 s;
  rises = λ a s t. first_laws.rises 0 s t;
  above = λ a s. first_laws.above 0 s;
  sent = λ a seq call leg fed among. first_laws.sent 0 a leg fed (omega arith) (leg_short p a leg is (leg_is p a seq call leg is among));
  delays = λ a seq call leg among. leg_short p a leg is (leg_is p a seq call leg is among);
  targets = λ a seq call leg among. among_ancestors p a leg.target is (leg_is p a seq call leg is among).link;
  closed = λ a b f. closed p a b f is;
  ascend = λ f. is.closed.ascending f;
  others = λ f among. ((is.closed.exact f f).0 among).0 refl;
}

within : (p : Federation) (f : ℕ) → IsFederation p → Each (λ a. a < length p.federates) (row_of p.ancestors f)
within p f is a among = ancestor_within p is a f among

arrives_at : (p : Federation) (from to end : EndRef) (sequence delay : ℕ) → IsFederation p → IsEndpoint p.federates from → IsEndpoint p.federates to →
    may_send p.federates from to ≡ true → filtered_at p.federates from sequence to ≡ Kept end delay → (end.fed ≡ from.fed) ⊎ IsIn from.fed (row_of p.ancestors end.fed)
arrives_at p from to end sequence delay is known known' may passed =
    let at : Arrives p.federates from to end delay = arrives p.federates from to end sequence delay is.kept passed in
    let ends = end_known p.federates from to end (is_accepted p is) known' at.ends in
    among_ancestors p from.fed end.fed is (message_depends p.federates from end known ends (end_reached p.federates from to end may at.ends))

-- ---- what is objected

publishes : (feds : List FederateRecord) (f publication : ℕ) (value : Value) → objection feds f (publish publication value) ≡ None → IsPublication feds (record { fed = f; index = publication })
publishes feds f publication value none = elim (cases_lt publication (length (federate_at feds f).publications)) [
  | inl below ↦ below
  | inr past ↦
      let some : Some NotOwner ≡ None = ap (λ (o : Option PubRecord). kind_objection o value) (sym (slice_get_past (federate_at feds f).publications publication past)) ∙ none in absurd (cc)
]

sends : (feds : List FederateRecord) (f endpoint : ℕ) (name payload : List ℕ) → objection feds f (send endpoint name payload) ≡ None → IsSend feds (record { fed = f; index = endpoint }) name
sends feds f endpoint name payload none = by (endpoint_in feds f endpoint) refl none
  where
    from : EndRef
    from = record { fed = f; index = endpoint }

    to_one : (e : EndRecord) → endpoint_in feds f endpoint ≡ Some e → (o : Option EndRef) → destined feds e name ≡ o → target_objection feds from o ≡ None → IsSend feds from name
    to_one e at None means none' = absurd (cc)
    to_one e at (Some to) means none' = elim (cases_Bool (may_send feds from to)) [
      | inl may ↦
          let own = sender_known feds from e at in
          let same : Some e ≡ Some (endpoint_at feds from).item = sym at ∙ slice_get-get_or (federate_at feds f).endpoints endpoint blank_endpoint own in
          let is : e ≡ (endpoint_at feds from).item = cc in
          record { own = own; to = to; means = subst (λ (x : EndRecord). destined feds x name ≡ Some to) is means; known = destined_known feds e name to means; may = may }
      | inr not ↦ let some : Some NotATarget ≡ None = rw not at none' in absurd (cc)
    ]

    by : (o : Option EndRecord) → endpoint_in feds f endpoint ≡ o → send_objection feds from o name ≡ None → IsSend feds from name
    by None at none' = absurd (cc)
    by (Some e) at none' = to_one e at (destined feds e name) refl none'

tree : (p : Federation) → IsFederation p → IsTree (parents_of p.tree.nodes)
tree p is = tree_is p.tree.nodes is.valid.some is.valid.placed

pub plan_laws : PlanLaws
plan_laws = record {
  known = endpoints_known;
  pubs = publications_known;
  plans_are = plans_are;
  closed = closed;
  stays = λ p e is. no_reroutes p.federates e is.kept;
  within = within;
  ends = λ p from to end sequence delay is known passed.
      end_known p.federates from to end (is_accepted p is) known (arrives p.federates from to end sequence delay is.kept passed).ends;
  arrives = arrives_at;
  publishes = publishes;
  sends = sends;
  legs = λ p a sequence call leg is among. (leg_is p a sequence call leg is among).is;
  tree = tree;
  cores = λ p f is below.
      (let core = is.valid.cores (core_at p f) (at_in p.tree.cores f 0 (let many = is.cores in omega (arith, many, below))) in
      (core_known p.tree.nodes (core_at p f) core, core));
  ways = λ p z t is low high apart.
      (let way = hop_is (parents_of p.tree.nodes) z t (tree p is) apart in
      record { node = hop_within (parents_of p.tree.nodes) z t (length p.tree.nodes) (tree p is) low high apart; edge = way.0; onward = way.1 });
}
