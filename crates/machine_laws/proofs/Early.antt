-- A grant is early by the least ancestor that holds it.
use Rattle.std.proofs.Common.{◌≡◌, ◌⊎◌, inl, inr, ℕ, suc, ◌+◌, ◌<◌, ◌≤◌, Bool, true, false, arith, refl, sym, ◌∙◌, ap, subst, List, [], ◌∷◌, length, get_or, Some, None}
use Rattle.std.specs.Prelude.{nat_lt, if◌then◌else◌}
use Rattle.std.specs.List.Sorted.{IsStrictlyIncreasing}
use Rattle.std.proofs.lemmas.Bool.{cases_Bool, cases_lt, false≢true}
use Rattle.std.proofs.lemmas.Bool.Decides.{nat_tests}
use Rattle.std.proofs.lemmas.List.{get_or_past}
use Rattle.helics_time.specs.Stamp.{At, before, rank}
use Rattle.helics_time.proofs.Ranks.{order_of}
use Rattle.hel_lists.specs.Members.{IsIn}
use Rattle.time_state.specs.Fed.{is_asking}
use Rattle.time_state.proofs.Grants.{grant_stands}
use Rattle.machine_laws.specs.declared.refusal.Unlawful.TheVariants.{StrangeNumber, NotAsked, Early}
use Rattle.machine_laws.specs.Plan.{Plan, IsPlan}
use Rattle.machine_laws.specs.Machine.{Member, State, member_at, blank_member, dues_to, event_in, cut_in, holder_in, grant_refusal, refusal_of, opening}
use Rattle.machine_laws.specs.Machine.Step.{grant}
use Rattle.machine_laws.specs.Laws.{Keeps, Holds, IsHolder, GrantRefusals, EarlyNamesTheLeast}
use Rattle.machine_laws.proofs.Accepted.{known_is}
use Rattle.machine_laws.proofs.Cuts.{dues_of, event_in_is, none_holds}
use Rattle.machine_laws.proofs.Handed.{event_is_stamp}
use Rattle.machine_laws.proofs.Keep.{keeps_run, keeps_opening}

-- the least of a list by which a grant is early
record Found (p : Plan) (s : State) (cut : At) (some : List ℕ) (a : ℕ) : Type 0 where
  answer : holder_in p s cut some ≡ Some (Early a (event_in s a))
  among : IsIn a some
  late : before cut (p.first a (event_in s a)) ≡ false
  least : (b : ℕ) → IsIn b some → before cut (p.first b (event_in s b)) ≡ false → a ≤ b

-- what comes behind the first of a list that ascends does too
ascends_behind : (a : ℕ) (more : List ℕ) → IsStrictlyIncreasing (a ∷ more) → IsStrictlyIncreasing more
ascends_behind a more up k within =
    let next : suc k + 1 ≡ suc (k + 1) = omega arith in
    subst (λ (j : ℕ). get_or more k 0 < get_or (a ∷ more) j 0) next (up (suc k) (omega (arith, within)))

-- and is above it
first_below : (a : ℕ) (more : List ℕ) → IsStrictlyIncreasing (a ∷ more) → (b : ℕ) → IsIn b more → a < b
first_below a [] up b among = absurd among
first_below a (c ∷ more) up b among =
    let next : a < get_or (a ∷ c ∷ more) (0 + 1) 0 = up 0 (omega arith) in
    let less : a < c = next in
    elim among [
      | inl here ↦ (omega (arith, less, here))
      | inr later ↦ (let rest = first_below c more (ascends_behind a (c ∷ more) up) b later in omega (arith, less, rest))
    ]

-- so the first that isn't passed is the least
find : (p : Plan) (s : State) (cut : At) (some : List ℕ) → IsStrictlyIncreasing some → (holder_in p s cut some ≡ None) ⊎ ((a : ℕ) × Found p s cut some a)
find p s cut [] ascends = inl refl
find p s cut (a ∷ more) ascends = elim (cases_Bool (before cut (p.first a (event_in s a)))) [
  | inl free ↦ elim (find p s cut more (ascends_behind a more ascends)) [
    | inl none ↦ inl (on true free ∙ none)
    | inr found ↦ inr (
      found.0,
      record {
        answer = on true free ∙ found.1.answer;
        among = inr found.1.among;
        late = found.1.late;
        least = λ b among late. elim among [
          | inl here ↦ absurd (false≢true (sym late ∙ ap (λ (x : ℕ). before cut (p.first x (event_in s x))) here ∙ free))
          | inr later ↦ found.1.least b later late
        ];
      },
    )
  ]
  | inr late ↦ inr (
    a,
    record {
      answer = on false late;
      among = inl refl;
      late = late;
      least = λ b among is. elim among [
        | inl here ↦ (omega (arith, here))
        | inr later ↦ (let below = first_below a more ascends b later in omega (arith, below))
      ];
    },
  )
]
  where
    on : (b : Bool) → before cut (p.first a (event_in s a)) ≡ b → holder_in p s cut (a ∷ more) ≡ (if b then holder_in p s cut more else Some (Early a (event_in s a)))
    on b is = ap (λ (t : Bool). if t then holder_in p s cut more else Some (Early a (event_in s a))) is

-- the cut of a federate that asks stands before `first` of an ancestor's event exactly where its rank is below
cut_order : (p : Plan) (s : State) (f a : ℕ) → IsPlan p → Keeps p s → is_asking (member_at s f).time.phase ≡ true →
    before (cut_in s f) (p.first a (event_in s a)) ≡ nat_lt (rank (cut_in s f)) (rank (p.first a (event_in s a)))
cut_order p s f a plan keeps asks =
    let granted = grant_stands (member_at s f).time (dues_to s.items f) (keeps.feds f) (dues_of p s f keeps) asks in
    order_of (cut_in s f) (p.first a (event_in s a)) (event_is_stamp (cut_in s f) granted.cut_is) (plan.stamps a (event_in s a) (event_in_is p s a keeps))

below_true : (a b : ℕ) → b ≤ a → nat_lt a b ≡ false
below_true a b le = grind (arith, nat_tests)

below_false : (a b : ℕ) → nat_lt a b ≡ false → b ≤ a
below_false a b test = grind (arith, nat_tests)

-- there is no federate past the last
past_idle : (s : State) (f : ℕ) → length s.members ≤ f → is_asking (member_at s f).time.phase ≡ false
past_idle s f past = ap (λ (m : Member). is_asking m.time.phase) (get_or_past s.members f blank_member past)

-- a number that no federate has
strange : (p : Plan) (s : State) (f : ℕ) → length s.members ≤ f → GrantRefusals p s f
strange p s f past = record {
  strange = (λ e. past, λ le. answer);
  unasked = ((λ e. (let x : Some StrangeNumber ≡ Some NotAsked = sym answer ∙ e in cc)), (λ k. (let within = k.0 in absurd (omega (arith, within, past)))));
  early = λ a event. ((λ e. (let x : Some StrangeNumber ≡ Some (Early a event) = sym answer ∙ e in cc)), (λ k. absurd (false≢true (sym idle ∙ k.0))));
  lawful = ((λ e. (let x : Some StrangeNumber ≡ None = sym answer ∙ e in cc)), (λ k. absurd (false≢true (sym idle ∙ k.0))));
}
  where
    idle : is_asking (member_at s f).time.phase ≡ false
    idle = past_idle s f past

    answer : refusal_of p s (grant f) ≡ Some StrangeNumber
    answer = ap (λ (b : Bool). if b then grant_refusal p s f else Some StrangeNumber) (below_true f (length s.members) past)

-- a federate that asks for no grant
unasked : (p : Plan) (s : State) (f : ℕ) → f < length s.members → is_asking (member_at s f).time.phase ≡ false → GrantRefusals p s f
unasked p s f within idle = record {
  strange = ((λ e. (let x : Some NotAsked ≡ Some StrangeNumber = sym answer ∙ e in cc)), (λ past. absurd (omega (arith, within, past))));
  unasked = ((λ e. (within, idle)), (λ k. answer));
  early = λ a event. ((λ e. (let x : Some NotAsked ≡ Some (Early a event) = sym answer ∙ e in cc)), (λ k. absurd (false≢true (sym idle ∙ k.0))));
  lawful = ((λ e. (let x : Some NotAsked ≡ None = sym answer ∙ e in cc)), (λ k. absurd (false≢true (sym idle ∙ k.0))));
}
  where
    answer : refusal_of p s (grant f) ≡ Some NotAsked
    answer = known_is s f _ within ∙ ap (λ (b : Bool). if b then holder_in p s (cut_in s f) (p.ancestors f) else Some NotAsked) idle

-- a federate that asks is one of the plan's, and its ancestors decide
asked_refusal : (p : Plan) (s : State) (f : ℕ) → f < length s.members → is_asking (member_at s f).time.phase ≡ true → refusal_of p s (grant f) ≡ holder_in p s (cut_in s f) (p.ancestors f)
asked_refusal p s f within asks = known_is s f _ within ∙ ap (λ (b : Bool). if b then holder_in p s (cut_in s f) (p.ancestors f) else Some NotAsked) asks

-- no ancestor holds its grant
lawful : (p : Plan) (s : State) (f : ℕ) → f < length s.members → is_asking (member_at s f).time.phase ≡ true → refusal_of p s (grant f) ≡ None → ((a : ℕ) → Holds p s f a → ⊥) → GrantRefusals p s f
lawful p s f within asks answer free = record {
  strange = ((λ e. (let x : None ≡ Some StrangeNumber = sym answer ∙ e in cc)), (λ past. absurd (omega (arith, within, past))));
  unasked = ((λ e. (let x : None ≡ Some NotAsked = sym answer ∙ e in cc)), (λ k. absurd (false≢true (sym k.1 ∙ asks))));
  early = λ a event. ((λ e. (let x : None ≡ Some (Early a event) = sym answer ∙ e in cc)), (λ k. absurd (free a k.1.holds)));
  lawful = ((λ e. (asks, free)), (λ k. answer));
}

same_early : {a b : ℕ} {x y : At} → Some (Early a x) ≡ Some (Early b y) → (a ≡ b) × (x ≡ y)
same_early e = (cc, cc)

-- or the least that does is named
held : (p : Plan) (s : State) (f a : ℕ) → f < length s.members → is_asking (member_at s f).time.phase ≡ true → refusal_of p s (grant f) ≡ Some (Early a (event_in s a)) →
    IsHolder p s f a (event_in s a) → GrantRefusals p s f
held p s f a within asks answer holder = record {
  strange = ((λ e. (let x : Some (Early a (event_in s a)) ≡ Some StrangeNumber = sym answer ∙ e in cc)), (λ past. absurd (omega (arith, within, past))));
  unasked = ((λ e. (let x : Some (Early a (event_in s a)) ≡ Some NotAsked = sym answer ∙ e in cc)), (λ k. absurd (false≢true (sym k.1 ∙ asks))));
  early = λ b event. (
    (λ e. (let same = same_early (sym answer ∙ e) in
        (asks, subst (λ (y : At). IsHolder p s f b y) same.1 (subst (λ (x : ℕ). IsHolder p s f x (event_in s a)) same.0 holder)))),
    (λ k. (let up = holder.least b k.1.holds in
        let down = k.1.least a holder.holds in
        let same : a ≡ b = omega (arith, up, down) in
        answer ∙ ap (λ (x : ℕ). Some (Early x (event_in s x))) same ∙ ap (λ (y : At). Some (Early b y)) (sym k.1.acts))),
  );
  lawful = ((λ e. (let x : Some (Early a (event_in s a)) ≡ None = sym answer ∙ e in cc)), (λ k. absurd (k.1 a holder.holds)));
}

-- of a federate that asks
asked : (p : Plan) (s : State) (f : ℕ) → IsPlan p → Keeps p s → f < length s.members → is_asking (member_at s f).time.phase ≡ true → GrantRefusals p s f
asked p s f plan keeps within asks = elim (find p s (cut_in s f) (p.ancestors f) (plan.ascend f)) [
  | inl none ↦ lawful p s f within asks (asked_refusal p s f within asks ∙ none) (λ a holds.
      false≢true (sym (late a holds) ∙ none_holds p s (cut_in s f) (p.ancestors f) none a holds.0))
  | inr found ↦ held p s f found.0 within asks (asked_refusal p s f within asks ∙ found.1.answer) (record {
    holds = (found.1.among, below_false _ _ (sym (cut_order p s f found.0 plan keeps asks) ∙ found.1.late));
    least = λ b holds. found.1.least b holds.0 (late b holds);
    other = λ same. plan.others f (subst (λ (x : ℕ). IsIn x (p.ancestors f)) same found.1.among);
    acts = refl;
  })
]
  where
    late : (a : ℕ) → Holds p s f a → before (cut_in s f) (p.first a (event_in s a)) ≡ false
    late a holds = cut_order p s f a plan keeps asks ∙ below_true _ _ holds.1

pub early_names_the_least : EarlyNamesTheLeast
early_names_the_least p s f steps plan run = elim (cases_lt f (length s.members)) [
  | inl within ↦ elim (cases_Bool (is_asking (member_at s f).time.phase)) [
    | inl asks ↦ asked p s f plan (keeps_run p (opening p) steps s plan (keeps_opening p plan) run) within asks
    | inr idle ↦ unasked p s f within idle
  ]
  | inr past ↦ strange p s f past
]
