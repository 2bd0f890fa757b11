-- Where all wait and no two for each other, some grant is lawful.
use Rattle.std.proofs.Common.{◌≡◌, ◌⊎◌, inl, inr, ℕ, zero, suc, ◌+◌, ◌<◌, ◌≤◌, Bool, true, false, ◌&&◌, arith, refl, sym, ◌∙◌, ap, subst, List, [], ◌∷◌, length, None}
use Rattle.std.specs.Prelude.{nat_eq, ◌≢◌, if◌then◌else◌}
use Rattle.std.specs.List.{list_any}
use Rattle.std.proofs.lemmas.Bool.{cases_Bool, cases_lt, cases_eq, false≢true}
use Rattle.std.proofs.lemmas.Bool.Decides.{nat_tests}
use Rattle.helics_time.specs.Stamp.{At, rank}
use Rattle.helics_time.specs.Settings.{Terms}
use Rattle.helics_time.proofs.Ranks.{next_more}
use Rattle.hel_lists.specs.Members.{IsIn}
use Rattle.time_state.specs.Fed.{Fed, IsEvent, is_asking, event_of, cut_of, cut_at}
use Rattle.time_state.specs.declared.Cause.TheVariants.{Finished}
use Rattle.time_state.specs.declared.Phase.{Phase}
use Rattle.time_state.specs.declared.Phase.TheVariants.{Created, Initializing, Entering, Running, Waiting, Ended}
use Rattle.time_state.proofs.FedLaws.{fed_laws}
use Rattle.machine_laws.specs.Plan.{Plan, IsPlan}
use Rattle.machine_laws.specs.Machine.{State, member_at, dues_to, event_in, cut_in, refusal_of, opening}
use Rattle.machine_laws.specs.Machine.Step.{grant}
use Rattle.machine_laws.specs.Laws.{Keeps, Holds, GrantRefusals, terms_of, WaitForEachOther, AllWait, SomeGrant}
use Rattle.machine_laws.proofs.Cuts.{dues_of, event_in_is, first_above}
use Rattle.machine_laws.proofs.Early.{early_names_the_least}
use Rattle.machine_laws.proofs.Grants.{logs_tell}
use Rattle.machine_laws.proofs.Keep.{keeps_run, keeps_opening}

-- ---- counting

-- how many numbers below n pass a test
abbrev count : (ℕ → Bool) → ℕ → ℕ
count test zero = 0
count test (suc n) = (if test n then 1 else 0) + count test n

count_most : (one other : ℕ → Bool) (n : ℕ) → ((g : ℕ) → one g ≡ true → other g ≡ true) → count one n ≤ count other n
count_most one other zero more = omega arith
count_most one other (suc n) more = by_test (one n) (other n) refl refl (count_most one other n more)
  where
    by_test : (b c : Bool) → one n ≡ b → other n ≡ c → count one n ≤ count other n → (if b then 1 else 0) + count one n ≤ (if c then 1 else 0) + count other n
    by_test true true is also rest = omega (arith, rest)
    by_test true false is also rest = absurd (false≢true (sym also ∙ more n is))
    by_test false true is also rest = omega (arith, rest)
    by_test false false is also rest = omega (arith, rest)

-- a test that fewer pass counts fewer
count_less : (one other : ℕ → Bool) (n a : ℕ) → ((g : ℕ) → one g ≡ true → other g ≡ true) → a < n → one a ≡ false → other a ≡ true → count one n < count other n
count_less one other zero a more within fails passes = absurd (omega (arith, within))
count_less one other (suc n) a more within fails passes = elim (cases_eq a n) [
  | inl here ↦
      let not : one n ≡ false = subst (λ k. one k ≡ false) here fails in
      let too : other n ≡ true = subst (λ k. other k ≡ true) here passes in
      let rest = count_most one other n more in
      let none = ap {B = ℕ} (λ (b : Bool). if b then 1 else 0) not in
      let some = ap {B = ℕ} (λ (b : Bool). if b then 1 else 0) too in
      omega (arith, none, some, rest)
  | inr there ↦ by_test (one n) (other n) refl refl (count_less one other n a more (omega (arith, within, there)) fails passes)
]
  where
    by_test : (b c : Bool) → one n ≡ b → other n ≡ c → count one n < count other n → (if b then 1 else 0) + count one n < (if c then 1 else 0) + count other n
    by_test true true is also rest = omega (arith, rest)
    by_test true false is also rest = absurd (false≢true (sym also ∙ more n is))
    by_test false true is also rest = omega (arith, rest)
    by_test false false is also rest = omega (arith, rest)

-- ---- lists

is_among : List ℕ → ℕ → Bool
is_among xs a = list_any (nat_eq a) xs

among_is : (xs : List ℕ) (a : ℕ) → is_among xs a ≡ true → IsIn a xs
unfolding is_among
among_is [] a is = absurd (false≢true is)
among_is (x ∷ xs) a is = elim (cases_eq a x) [
  | inl same ↦ inl same
  | inr other ↦ inr (among_is xs a (grind (arith, nat_tests)))
]

is_among_in : (xs : List ℕ) (a : ℕ) → IsIn a xs → is_among xs a ≡ true
unfolding is_among
is_among_in [] a among = absurd among
is_among_in (x ∷ xs) a (inl same) = grind (arith, nat_tests)
is_among_in (x ∷ xs) a (inr later) = let rest = is_among_in xs a later in grind (arith, nat_tests)

-- some element is held, or none is
some_held : (e : ℕ → ℕ) (cut : ℕ) (xs : List ℕ) → ((a : ℕ) × IsIn a xs × (e a ≤ cut)) ⊎ ((a : ℕ) → IsIn a xs → cut < e a)
some_held e cut [] = inr (λ a among. absurd among)
some_held e cut (x ∷ xs) = elim (cases_lt cut (e x)) [
  | inl above ↦ elim (some_held e cut xs) [
    | inl found ↦ inl (found.0, inr found.1, found.2)
    | inr none ↦ inr (λ a among. elim among [
      | inl here ↦ subst (λ k. cut < e k) (sym here) above
      | inr later ↦ none a later
    ])
  ]
  | inr held ↦ inl (x, inl refl, held)
]

-- of those that pass a test one with the least number
record IsLeastOf (test : ℕ → Bool) (e : ℕ → ℕ) (n f : ℕ) : Type 0 where
  within : f < n
  passes : test f ≡ true
  least : (g : ℕ) → g < n → test g ≡ true → e f ≤ e g

least_of : (test : ℕ → Bool) (e : ℕ → ℕ) (n : ℕ) → ((f : ℕ) × IsLeastOf test e n f) ⊎ ((g : ℕ) → g < n → test g ≡ false)
least_of test e zero = inr (λ g within. absurd (omega (arith, within)))
least_of test e (suc n) = by_test (test n) refl (least_of test e n)
  where
    by_test : (b : Bool) → test n ≡ b → ((f : ℕ) × IsLeastOf test e n f) ⊎ ((g : ℕ) → g < n → test g ≡ false) → ((f : ℕ) × IsLeastOf test e (suc n) f) ⊎ ((g : ℕ) → g < suc n → test g ≡ false)
    by_test false is (inl found) = inl (
      found.0,
      record {
        within = (let w = found.1.within in omega (arith, w));
        passes = found.1.passes;
        least = λ g within passes. elim (cases_lt g n) [
          | inl below ↦ found.1.least g below passes
          | inr past ↦ let same : g ≡ n = omega (arith, within, past) in absurd (false≢true (sym is ∙ ap test (sym same) ∙ passes))
        ];
      },
    )
    by_test false is (inr none) = inr (λ g within. elim (cases_lt g n) [
      | inl below ↦ none g below
      | inr past ↦ let same : g ≡ n = omega (arith, within, past) in ap test same ∙ is
    ])
    by_test true is (inr none) = inl (
      n,
      record {
        within = omega arith;
        passes = is;
        least = λ g within passes. elim (cases_lt g n) [
          | inl below ↦ absurd (false≢true (sym (none g below) ∙ passes))
          | inr past ↦ let same : g ≡ n = omega (arith, within, past) in let h : e g ≡ e n = ap e same in omega (arith, h)
        ];
      },
    )
    by_test true is (inl found) = elim (cases_lt (e n) (e found.0)) [
      | inl less ↦ inl (
        n,
        record {
          within = omega arith;
          passes = is;
          least = λ g within passes. elim (cases_lt g n) [
            | inl below ↦ (let h = found.1.least g below passes in omega (arith, less, h))
            | inr past ↦ let same : g ≡ n = omega (arith, within, past) in let h : e g ≡ e n = ap e same in omega (arith, h)
          ];
        },
      )
      | inr more ↦ inl (
        found.0,
        record {
          within = (let w = found.1.within in omega (arith, w));
          passes = found.1.passes;
          least = λ g within passes. elim (cases_lt g n) [
            | inl below ↦ found.1.least g below passes
            | inr past ↦ let same : g ≡ n = omega (arith, within, past) in let h : e g ≡ e n = ap e same in omega (arith, h, more)
          ];
        },
      )
    ]

-- ---- cuts

-- without the flag a cut is the stamp of its grant
cut_same : (f : Fed) (s : At) → f.settings.wait ≡ false → cut_at f s ≡ s
cut_same f s not = by_phase f.phase f.settings.wait not
  where
    by_phase : (q : Phase) (w : Bool) → w ≡ false → cut_at (record f { phase = q; settings = record f.settings { wait = w } }) s ≡ s
    by_phase Created w is = refl
    by_phase Initializing w is = refl
    by_phase Entering w is = refl
    by_phase Running w is = refl
    by_phase (Ended c) w is = refl
    by_phase Waiting true is = absurd (false≢true (sym is))
    by_phase Waiting false is = refl

-- a cut past the event is that of a federate that waits for current updates
cut_waits : (f : Fed) (dues : List At) → rank (event_of f dues) < rank (cut_of f dues) → f.settings.wait ≡ true
cut_waits f dues less = elim (cases_Bool f.settings.wait) [
  | inl waits ↦ waits
  | inr not ↦ let same = ap rank (cut_same f (event_of f dues) not) in absurd (omega (arith, less, same))
]

-- ---- who holds whom

-- the state of a run in which all wait
record Waits (p : Plan) (s : State) : Type 0 where
  plan : IsPlan p
  keeps : Keeps p s
  settings : (f : ℕ) → (member_at s f).time.settings ≡ terms_of p f
  refusals : (f : ℕ) → GrantRefusals p s f
  known : (a b : ℕ) → IsIn a (p.ancestors b) → a < length s.members
  all : AllWait s
  none : (a b : ℕ) → WaitForEachOther p a b → ⊥

-- it asks for a grant, and acts no later than any other
record Tied (s : State) (f : ℕ) : Type 0 where
  within : f < length s.members
  asks : is_asking (member_at s f).time.phase ≡ true
  least : (g : ℕ) → g < length s.members → is_asking (member_at s g).time.phase ≡ true → rank (event_in s f) ≤ rank (event_in s g)

not_finished : (q : Phase) → is_asking q ≡ true → q ≢ Ended Finished
not_finished Entering asks is = cc
not_finished Waiting asks is = cc
not_finished q asks is = absurd (false≢true asks)

-- the event of one that asks is that of a federate that hasn't finished
asking_event : (p : Plan) (s : State) (f : ℕ) → Waits p s → is_asking (member_at s f).time.phase ≡ true → IsEvent (event_in s f)
asking_event p s f w asks = fed_laws.event_is (member_at s f).time (dues_to s.items f) (w.keeps.feds f) (dues_of p s f w.keeps) (not_finished (member_at s f).time.phase asks)

asking_cut : (p : Plan) (s : State) (f : ℕ) → Waits p s → is_asking (member_at s f).time.phase ≡ true → IsEvent (cut_in s f)
asking_cut p s f w asks = fed_laws.cut_is (member_at s f).time (dues_to s.items f) (w.keeps.feds f) (dues_of p s f w.keeps) (not_finished (member_at s f).time.phase asks)

-- what holds one of the first is one of the first too, and the one that is held waits for current updates
record HeldBy (p : Plan) (s : State) (f a : ℕ) : Type 0 where
  tied : Tied s a
  waits : (terms_of p f).wait ≡ true

held_by : (p : Plan) (s : State) (f a : ℕ) → Waits p s → Tied s f → Holds p s f a → HeldBy p s f a
held_by p s f a w first holds = elim (w.all a (w.known a f holds.0)) [
  | inl asks ↦
      let above = first_above p a (event_in s a) w.plan (asking_event p s a w asks) in
      let high = fed_laws.cut_high (member_at s f).time (dues_to s.items f) (w.keeps.feds f) (dues_of p s f w.keeps) in
      let least = first.least a (w.known a f holds.0) asks in
      let late = holds.1 in
      let waits : (member_at s f).time.settings.wait ≡ true = cut_waits (member_at s f).time (dues_to s.items f) (omega (arith, above, least, late)) in
      record {
        tied = record {
          within = w.known a f holds.0;
          asks = asks;
          least = λ g within asking. (let lowest = first.least g within asking in omega (arith, above, high, late, lowest));
        };
        waits = ap (λ (t : Terms). t.wait) (sym (w.settings f)) ∙ waits;
      }
  | inr finished ↦
      let is_never = (fed_laws.never_is (member_at s a).time (dues_to s.items a) (w.keeps.feds a) (dues_of p s a w.keeps)).1 finished in
      let above = w.plan.above a (event_in s a) (event_in_is p s a w.keeps) in
      let next = next_more (event_in s a) (event_in_is p s a w.keeps) in
      let ranks = ap rank is_never in
      let cut = asking_cut p s f w first.asks in
      let time = cut.time in
      let micro = cut.micro in
      let late = holds.1 in
      absurd (omega (arith, above, next, ranks, late, time, micro))
]

-- ---- one of the first is held by none

-- the first that are ancestors of f
tied_in : (p : Plan) (s : State) (stamp f g : ℕ) → Bool
tied_in p s stamp f g = is_among (p.ancestors f) g && (is_asking (member_at s g).time.phase && nat_eq (rank (event_in s g)) stamp)

both : (a b : Bool) → (a && b) ≡ true → (a ≡ true) × (b ≡ true)
both true b h = (refl, h)
both false b h = absurd (false≢true h)

together : (a b : Bool) → a ≡ true → b ≡ true → (a && b) ≡ true
together true b h k = k
together false b h k = absurd (false≢true h)

first_false : (a b : Bool) → a ≡ false → (a && b) ≡ false
first_false false b h = refl
first_false true b h = absurd (false≢true (sym h))

same_number : (a b : ℕ) → a ≡ b → nat_eq a b ≡ true
same_number a b h = grind (arith, nat_tests)

lawful_by : (p : Plan) (s : State) (f : ℕ) → Waits p s → Tied s f → ((a : ℕ) → IsIn a (p.ancestors f) → rank (cut_in s f) < rank (p.first a (event_in s a))) → refusal_of p s (grant f) ≡ None
lawful_by p s f w first none = (w.refusals f).lawful.1 (first.asks, λ a holds. (let above = none a holds.0 in let late = holds.1 in absurd (omega (arith, above, late))))

-- of two of which one holds the other fewer of the first are ancestors of the one
fewer : (p : Plan) (s : State) (stamp f a : ℕ) → Waits p s → rank (event_in s a) ≡ stamp → Holds p s f a → HeldBy p s f a → (terms_of p a).wait ≡ true →
    count (tied_in p s stamp a) (length s.members) < count (tied_in p s stamp f) (length s.members)
unfolding tied_in
fewer p s stamp f a w at holds by_a waits = count_less (tied_in p s stamp a) (tied_in p s stamp f) (length s.members) a more by_a.tied.within fails passes
  where
    pair : IsIn f (p.ancestors a) → ⊥
    pair back = w.none a f (record { a_waits = waits; b_waits = by_a.waits; a_first = holds.0; b_first = back })

    among : (g : ℕ) → IsIn g (p.ancestors a) → IsIn g (p.ancestors f)
    among g of_a = elim (cases_eq g f) [
      | inl here ↦ absurd (pair (subst (λ k. IsIn k (p.ancestors a)) here of_a))
      | inr other ↦ w.plan.closed g a f of_a holds.0 other
    ]

    more : (g : ℕ) → tied_in p s stamp a g ≡ true → tied_in p s stamp f g ≡ true
    more g tied =
        let parts = both (is_among (p.ancestors a) g) _ tied in
        together (is_among (p.ancestors f) g) _ (is_among_in (p.ancestors f) g (among g (among_is (p.ancestors a) g parts.0))) parts.1

    fails : tied_in p s stamp a a ≡ false
    fails = elim (cases_Bool (is_among (p.ancestors a) a)) [
      | inl own ↦ absurd (w.plan.others a (among_is (p.ancestors a) a own))
      | inr not ↦ first_false (is_among (p.ancestors a) a) _ not
    ]

    passes : tied_in p s stamp f a ≡ true
    passes = together (is_among (p.ancestors f) a) _ (is_among_in (p.ancestors f) a holds.0) (together (is_asking (member_at s a).time.phase) _ by_a.tied.asks (same_number (rank (event_in s a)) stamp at))

same_stamp : (s : State) (f a : ℕ) → Tied s f → Tied s a → rank (event_in s a) ≡ rank (event_in s f)
same_stamp s f a one other =
    let low = one.least a other.within other.asks in
    let high = other.least f one.within one.asks in
    omega (arith, low, high)

-- following those that hold, one comes to one that none holds
some_free : (k : ℕ) (p : Plan) (s : State) (stamp f a : ℕ) → Waits p s → rank (event_in s f) ≡ stamp → Tied s f → Holds p s f a → count (tied_in p s stamp f) (length s.members) ≤ k → (g : ℕ) × (refusal_of p s (grant g) ≡ None)
some_free zero p s stamp f a w at first holds few =
    let by_a = held_by p s f a w first holds in
    elim (some_held (λ b. rank (p.first b (event_in s b))) (rank (cut_in s a)) (p.ancestors a)) [
      | inr free ↦ (a, lawful_by p s a w by_a.tied free)
      | inl held ↦
          let by_b = held_by p s a held.0 w by_a.tied (held.1, held.2) in
          let here = same_stamp s f a first by_a.tied ∙ at in
          let less = fewer p s stamp f a w here holds by_a by_b.waits in
          absurd (omega (arith, few, less))
    ]
some_free (suc k) p s stamp f a w at first holds few =
    let by_a = held_by p s f a w first holds in
    elim (some_held (λ b. rank (p.first b (event_in s b))) (rank (cut_in s a)) (p.ancestors a)) [
      | inr free ↦ (a, lawful_by p s a w by_a.tied free)
      | inl held ↦
          let by_b = held_by p s a held.0 w by_a.tied (held.1, held.2) in
          let here = same_stamp s f a first by_a.tied ∙ at in
          let less = fewer p s stamp f a w here holds by_a by_b.waits in
          some_free k p s stamp a held.0 w here by_a.tied (held.1, held.2) (omega (arith, few, less))
    ]

-- the first of those that ask
tied_least : (s : State) (f : ℕ) → IsLeastOf (λ g. is_asking (member_at s g).time.phase) (λ g. rank (event_in s g)) (length s.members) f → Tied s f
tied_least s f first = record { within = first.within; asks = first.passes; least = first.least }

pub some_grant : SomeGrant
some_grant p s before f plan known run all within asks none = elim (least_of (λ g. is_asking (member_at s g).time.phase) (λ g. rank (event_in s g)) (length s.members)) [
  | inr nobody ↦ absurd (false≢true (sym (nobody f within) ∙ asks))
  | inl found ↦
      let w : Waits p s = record {
        plan = plan;
        keeps = keeps_run p (opening p) before s plan (keeps_opening p plan) run;
        settings = λ g. (logs_tell p s g before plan run).settings;
        refusals = λ g. early_names_the_least p s g before plan run;
        known = known;
        all = all;
        none = none;
      } in
      let g = found.0 in
      let first = tied_least s g found.1 in
      elim (some_held (λ b. rank (p.first b (event_in s b))) (rank (cut_in s g)) (p.ancestors g)) [
        | inr free ↦ (g, lawful_by p s g w first free)
        | inl held ↦ some_free (count (tied_in p s (rank (event_in s g)) g) (length s.members)) p s (rank (event_in s g)) g held.0 w refl first (held.1, held.2) (omega arith)
      ]
]
