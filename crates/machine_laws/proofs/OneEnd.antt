-- All runs of scripts that go on until no federate may move end alike.
use Rattle.std.proofs.Common.{◌≡◌, ◌⊎◌, inl, inr, ℕ, zero, suc, ◌<◌, refl, sym, ◌∙◌, ap, subst, List, [], ◌∷◌, length, Option, Some, None, arith}
use Rattle.std.proofs.lemmas.Bool.{cases_eq, cases_lt}
use Rattle.machine_laws.specs.Plan.{Plan, IsPlan}
use Rattle.machine_laws.specs.Machine.{opening, logs_of}
use Rattle.machine_laws.specs.Machine.Step.{begin}
use Rattle.machine_laws.specs.Laws.{Keeps}
use Rattle.machine_laws.specs.Moves.{Scripts, Play, move, KeepsTimes, Moves, IsStill, OneEnd, OrdersEnd, OneAnswer, ReferenceEnds, IsReference, ReferenceLogs, opening_play}
use Rattle.machine_laws.proofs.Keep.{keeps_step, keeps_opening}
use Rattle.machine_laws.proofs.Moves.{diamond, move_keeps}

same_play : {v w : Play} → Some v ≡ Some w → v ≡ w
same_play e = cc

-- a play that is still doesn't move
still_or_moves : {v : Play} → None ≡ Some v → ⊥
still_or_moves e = cc

-- where f may move first, the same end is one move nearer from there
one_less : (p : Plan) (scripts : Scripts) (w n end : Play) (fs : List ℕ) (f : ℕ) → IsPlan p → KeepsTimes scripts → Keeps p w.state → Moves p scripts w fs end → IsStill p scripts end → move p scripts f w ≡ Some n →
    (gs : List ℕ) × Moves p scripts n gs end × (suc (length gs) ≡ length fs)
one_less p scripts w n end [] f plan times keeps moves still first =
    absurd (still_or_moves (sym (subst (λ (v : Play). move p scripts f v ≡ None) moves (still f)) ∙ first))
one_less p scripts w n end (g ∷ fs) f plan times keeps moves still first = elim (cases_eq g f) [
  | inl same ↦
      let e : moves.0 ≡ n = same_play (sym moves.1 ∙ ap (λ (k : ℕ). move p scripts k w) same ∙ first) in
      (fs, subst (λ (v : Play). Moves p scripts v fs end) e moves.2, refl)
  | inr differs ↦
      let d = diamond p scripts w moves.0 n g f plan times keeps differs moves.1 first in
      let rest = one_less p scripts moves.0 d.0 end fs f plan times (move_keeps p scripts g w moves.0 plan times keeps moves.1) moves.2 still d.1 in
      (g ∷ rest.0, (d.0, d.2, rest.1), ap suc rest.2)
]

-- by the moves of the second run: each of them leads to a play from which the first end is as near
pub one_end : OneEnd
one_end p scripts w a b [] [] plan times keeps to_a still_a to_b still_b = to_a ∙ sym to_b
one_end p scripts w a b (f ∷ fs) [] plan times keeps to_a still_a to_b still_b =
    absurd (still_or_moves (sym (subst (λ (v : Play). move p scripts f v ≡ None) to_b (still_b f)) ∙ to_a.1))
one_end p scripts w a b fs (g ∷ gs) plan times keeps to_a still_a to_b still_b =
    let less = one_less p scripts w to_b.0 a fs g plan times keeps to_a still_a to_b.1 in
    one_end p scripts to_b.0 a b less.0 gs plan times (move_keeps p scripts g w to_b.0 plan times keeps to_b.1) less.1 still_a to_b.2 still_b

-- what has moved leaves as many moves less
pub orders_end : OrdersEnd
orders_end p scripts w v end fs [] plan times keeps moves still so_far = (fs, subst (λ (u : Play). Moves p scripts u fs end) (sym so_far) moves, omega arith)
orders_end p scripts w v end fs (g ∷ gs) plan times keeps moves still so_far =
    let less = one_less p scripts w so_far.0 end fs g plan times keeps moves still so_far.1 in
    let rest = orders_end p scripts so_far.0 v end less.0 gs plan times (move_keeps p scripts g w so_far.0 plan times keeps so_far.1) less.1 still so_far.2 in
    (rest.0, rest.1, omega (arith, rest.2, less.2))

-- f is the least that may move
record IsLeast (p : Plan) (scripts : Scripts) (w : Play) (f : ℕ) : Type 0 where
  next : Play
  moves : move p scripts f w ≡ Some next
  least : (g : ℕ) → g < f → move p scripts g w ≡ None

-- below a number there is the least that may move, or none may
least_below : (p : Plan) (scripts : Scripts) (w : Play) (n : ℕ) → ((f : ℕ) × IsLeast p scripts w f) ⊎ ((g : ℕ) → g < n → move p scripts g w ≡ None)
least_below p scripts w zero = inr (λ g less. absurd (omega (arith, less)))
least_below p scripts w (suc n) = elim (least_below p scripts w n) [
  | inl found ↦ inl found
  | inr none ↦ by_move (move p scripts n w) refl none
]
  where
    by_move : (o : Option Play) → move p scripts n w ≡ o → ((g : ℕ) → g < n → move p scripts g w ≡ None)
        → ((f : ℕ) × IsLeast p scripts w f) ⊎ ((g : ℕ) → g < suc n → move p scripts g w ≡ None)
    by_move (Some next) is none = inl (n, record { next = next; moves = is; least = none })
    by_move None is none = inr (λ g less. elim (cases_lt g n) [
      | inl below ↦ none g below
      | inr past ↦ let same : g ≡ n = omega (arith, less, past) in ap (λ (k : ℕ). move p scripts k w) same ∙ is
    ])

-- one that may move is at or above the least
some_least : (p : Plan) (scripts : Scripts) (w n : Play) (f : ℕ) → move p scripts f w ≡ Some n → (g : ℕ) × IsLeast p scripts w g
some_least p scripts w n f moves = elim (least_below p scripts w (suc f)) [
  | inl found ↦ found
  | inr none ↦ absurd (still_or_moves (sym (none f (omega arith)) ∙ moves))
]

-- always the least moves, as often as anyone may
reference_by : (k : ℕ) (p : Plan) (scripts : Scripts) (w end : Play) (gs : List ℕ) → length gs ≡ k → IsPlan p → KeepsTimes scripts → Keeps p w.state →
    Moves p scripts w gs end → IsStill p scripts end → (fs : List ℕ) × IsReference p scripts w fs end × (length fs ≡ k)
reference_by zero p scripts w end [] many plan times keeps moves still = ([], (moves, subst (λ (v : Play). IsStill p scripts v) moves still), refl)
reference_by zero p scripts w end (g ∷ gs) many plan times keeps moves still = absurd (omega (arith, many))
reference_by (suc k) p scripts w end [] many plan times keeps moves still = absurd (omega (arith, many))
reference_by (suc k) p scripts w end (g ∷ gs) many plan times keeps moves still =
    let least = some_least p scripts w moves.0 g moves.1 in
    let first = least.1 in
    let less = one_less p scripts w first.next end (g ∷ gs) least.0 plan times keeps moves still first.moves in
    let rest = reference_by k p scripts first.next end less.0 (omega (arith, many, less.2)) plan times (move_keeps p scripts least.0 w first.next plan times keeps first.moves) less.1 still in
    (least.0 ∷ rest.0, (first.next, first.moves, first.least, rest.1), ap suc rest.2)

pub reference_ends : ReferenceEnds
reference_ends p scripts w end gs plan times keeps moves still = reference_by (length gs) p scripts w end gs refl plan times keeps moves still

pub one_answer : OneAnswer
one_answer p scripts a b fs gs plan times to_a still_a to_b still_b =
    one_end p scripts (opening_play p) a b fs gs plan times (keeps_step p (opening p) begin plan (keeps_opening p plan) (refl, tt)) to_a still_a to_b still_b

-- a reference run is a run of moves
reference_moves : (p : Plan) (scripts : Scripts) (w end : Play) (fs : List ℕ) → IsReference p scripts w fs end → Moves p scripts w fs end
reference_moves p scripts w end [] run = run.0
reference_moves p scripts w end (f ∷ fs) run = (run.0, run.1, reference_moves p scripts run.0 end fs run.3)

-- that goes on until no federate may move
reference_still : (p : Plan) (scripts : Scripts) (w end : Play) (fs : List ℕ) → IsReference p scripts w fs end → IsStill p scripts end
reference_still p scripts w end [] run = subst (λ (v : Play). IsStill p scripts v) (sym run.0) run.1
reference_still p scripts w end (f ∷ fs) run = reference_still p scripts run.0 end fs run.3

pub reference_logs : ReferenceLogs
reference_logs p scripts a b fs gs plan times reference to_b still_b =
    ap (λ (v : Play). logs_of v.state)
    (sym (one_answer p scripts a b fs gs plan times (reference_moves p scripts (opening_play p) a fs reference) (reference_still p scripts (opening_play p) a fs reference) to_b still_b))
