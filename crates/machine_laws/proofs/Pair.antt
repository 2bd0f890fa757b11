-- The laws aren't empty: a plan that has what they need, and a run of it.
use Rattle.std.proofs.Common.{◌≡◌, inl, inr, ℕ, Bool, true, false, arith, refl, sym, ap, subst, List, [], ◌∷◌, take}
use Rattle.std.specs.Prelude.{◌==◌, if◌then◌else◌}
use Rattle.std.specs.List.Sorted.{IsStrictlyIncreasing}
use Rattle.std.proofs.lemmas.Bool.{cases_Bool, eqb-true}
use Rattle.helics_time.specs.Settings.{Terms, IsTerms, first_from}
use Rattle.hel_lists.specs.Members.{IsIn}
use Rattle.due_queue.specs.Order.{comes_before}
use Rattle.machine_laws.specs.Plan.{Plan, IsPlan, Leg, Call, legs_of}
use Rattle.machine_laws.specs.Plan.Call.{publish, send}
use Rattle.machine_laws.specs.Machine.{State, Step, opening, after}
use Rattle.machine_laws.specs.Example.{pair, some_steps, PairRuns}
use Rattle.machine_laws.proofs.Calm.{default_is}
use Rattle.machine_laws.proofs.FirstBy.{first_laws}

-- where steps lead
end_of : Plan → State → List Step → State
end_of p s [] = s
end_of p s (step ∷ steps) = end_of p (after p s step) steps

-- the one leg that there is
record IsLeg (a : ℕ) (leg : Leg) : Type 0 where
  source : a ≡ 0
  target : leg.target ≡ 1
  delay : leg.delay ≡ 10

leg_is : (a seq : ℕ) (call : Call) (leg : Leg) → IsIn leg (legs_of pair a seq call) → IsLeg a leg
leg_is a seq (send endpoint destination payload) leg among = elim (cases_Bool (a == 0)) [
  | inl first ↦
      let cut = rw first at among in
      elim cut [
        | inl here ↦ record { source = eqb-true a 0 first; target = ap (λ (l : Leg). l.target) here; delay = ap (λ (l : Leg). l.delay) here }
        | inr none ↦ absurd none
      ]
  | inr other ↦ let cut = rw other at among in absurd cut
]
leg_is a seq (publish publication value) leg among = absurd among

-- the one ancestor that there is
ancestor_is : (a f : ℕ) → IsIn a (pair.ancestors f) → (a ≡ 0) × (f ≡ 1)
ancestor_is a f among = elim (cases_Bool (f == 1)) [
  | inl second ↦ let cut = rw second at among in elim cut [ inl here ↦ (here, eqb-true f 1 second) | inr none ↦ absurd none ]
  | inr other ↦ let cut = rw other at among in absurd cut
]

-- it stands alone
ascends : (b : Bool) → IsStrictlyIncreasing (if b then 0 ∷ [] else [])
ascends true k within = absurd (omega (arith, within))
ascends false k within = absurd (omega (arith, within))

-- so the plan is as the laws need it
pair_is : IsPlan pair
pair_is = record {
  settings = λ terms among. elim among [
    | inl here ↦ subst (λ (x : Terms). IsTerms x) (sym here) default_is
    | inr later ↦ elim later [ inl here ↦ subst (λ (x : Terms). IsTerms x) (sym here) default_is | inr none ↦ absurd none ]
  ];
  stamps = λ a s is. first_laws.stamps 10 s is;
  rises = λ a s t is is_t le. first_laws.rises 10 s t is is_t le;
  above = λ a s is. first_laws.above 10 s is;
  sent = λ a seq call leg fed among other low small. (let d = (leg_is a seq call leg among).delay in first_laws.sent 10 a leg fed (omega (arith, d)) (omega (arith, d)) other low small);
  delays = λ a seq call leg among. (let d = (leg_is a seq call leg among).delay in omega (arith, d));
  targets = λ a seq call leg among.
      (let l = leg_is a seq call leg among in
      let here : IsIn a (pair.ancestors 1) = inl l.source in
      inr (subst (λ (k : ℕ). IsIn a (pair.ancestors k)) (sym l.target) here));
  closed = λ a b f first second differs. (let x = ancestor_is a b first in let y = ancestor_is b f second in let e = x.1 in let d = y.0 in absurd (omega (arith, e, d)));
  ascend = λ f. ascends (f == 1);
  others = λ f among. (let x = ancestor_is f f among in let a = x.0 in let b = x.1 in omega (arith, a, b));
}

-- the run by computing
pub pair_runs : PairRuns
unfolding first_from comes_before end_of
pair_runs = record {
  plan = pair_is;
  end = end_of pair (opening pair) some_steps;
  run = ((refl, tt), ((refl, tt), ((refl, tt), ((refl, tt), ((refl, tt), ((refl, tt), ((refl, omega arith), ((refl, omega arith), ((refl, tt), refl)))))))));
  items = refl;
  log = refl;
  asked = end_of pair (opening pair) (take 7 some_steps);
  asking = ((refl, tt), ((refl, tt), ((refl, tt), ((refl, tt), ((refl, tt), ((refl, tt), ((refl, omega arith), refl)))))));
  early = refl;
}
