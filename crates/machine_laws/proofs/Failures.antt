-- Runs of scripts up to the first failure.
use Rattle.std.proofs.Common.{◌≡◌, inl, inr, ℕ, true, false, refl, sym, ◌∙◌, ap, subst, List, [], ◌∷◌, length, Option, Some, None, arith}
use Rattle.std.proofs.lemmas.Bool.{cases_eq, false≢true}
use Rattle.time_state.specs.declared.Cause.TheVariants.{Finished, Failed, Died, Halted}
use Rattle.time_state.specs.declared.Phase.{Phase}
use Rattle.time_state.specs.declared.Phase.TheVariants.{Created, Initializing, Entering, Running, Waiting, Ended}
use Rattle.machine_laws.specs.Plan.{Plan}
use Rattle.machine_laws.specs.Machine.{Member, member_at, failed_or_died}
use Rattle.machine_laws.specs.Moves.{Scripts, Play, move, Moves, IsStill, IsReference, KeepsTimes, opening_play, NoneFailed, is_failed, failed_in, IsUpToFailure, StopsAtFailure}
use Rattle.machine_laws.proofs.Moves.{moved_is, chosen_is, member_stays}
use Rattle.machine_laws.proofs.Stuck.{plays_on, AllPlay, move_plays, opening_plays, opening_unfailed, stuck_waits}

failure_moves : (p : Plan) (scripts : Scripts) (w end : Play) (fs : List ℕ) (failed : Option ℕ) → IsUpToFailure p scripts w fs failed end → Moves p scripts w fs end
failure_moves p scripts w end [] failed run = run.0
failure_moves p scripts w end (f ∷ fs) failed run = (
  run.0,
  run.1,
  elim run.3 [
    | inl fails ↦ subst (λ (gs : List ℕ). Moves p scripts run.0 gs end) (sym fails.1) fails.3
    | inr lives ↦ failure_moves p scripts run.0 end fs failed lives.1
  ],
)

none_some : {f : ℕ} → None ≡ Some f → ⊥
none_some e = cc

failure_reference : (p : Plan) (scripts : Scripts) (w end : Play) (fs : List ℕ) → IsUpToFailure p scripts w fs None end → IsReference p scripts w fs end
failure_reference p scripts w end [] run = (run.0, run.2)
failure_reference p scripts w end (f ∷ fs) run = elim run.3 [
  | inl fails ↦ absurd (none_some fails.2)
  | inr lives ↦ (run.0, run.1, run.2, failure_reference p scripts run.0 end fs lives.1)
]

failure_still : (p : Plan) (scripts : Scripts) (w end : Play) (fs : List ℕ) → IsUpToFailure p scripts w fs None end → IsStill p scripts end
failure_still p scripts w end [] run = subst (λ (v : Play). IsStill p scripts v) (sym run.0) run.2
failure_still p scripts w end (f ∷ fs) run = elim run.3 [
  | inl fails ↦ absurd (none_some fails.2)
  | inr lives ↦ failure_still p scripts run.0 end fs lives.1
]

-- one that scripts play has failed only by a call of its own
unfailed : (q : Phase) → plays_on q ≡ true → is_failed q ≡ false → failed_or_died q ≡ false
unfailed Created plays not = refl
unfailed Initializing plays not = refl
unfailed Entering plays not = refl
unfailed Running plays not = refl
unfailed Waiting plays not = refl
unfailed (Ended Finished) plays not = refl
unfailed (Ended Failed) plays not = absurd (false≢true (sym not))
unfailed (Ended Died) plays not = absurd (false≢true plays)
unfailed (Ended (Halted g)) plays not = refl

-- a move that is no failure leaves none failed
move_unfailed : (n : ℕ) (p : Plan) (scripts : Scripts) (f : ℕ) (w a : Play) → KeepsTimes scripts → move p scripts f w ≡ Some a → AllPlay n a.state → length w.state.members ≡ n → NoneFailed w.state → failed_in a f ≡ false → NoneFailed a.state
move_unfailed n p scripts f w a times e all many none lives x within = elim (cases_eq x f) [
  | inl same ↦ unfailed (member_at a.state x).time.phase (all.each x within) (ap (λ (k : ℕ). failed_in a k) same ∙ lives)
  | inr other ↦
      let m = moved_is p scripts f w a e in
      let chosen = chosen_is p scripts w f m.step times m.choice in
      let stays : member_at a.state x ≡ member_at w.state x = ap (λ (v : Play). member_at v.state x) m.is ∙ member_stays p w.state f x m.step (λ h. other (sym h)) chosen.own in
      let known = all.count in
      ap (λ (k : Member). failed_or_died k.time.phase) stays ∙ none x (omega (arith, within, known, many))
]

failure_none : (n : ℕ) (p : Plan) (scripts : Scripts) (w end : Play) (fs : List ℕ) → KeepsTimes scripts → AllPlay n w.state → NoneFailed w.state → IsUpToFailure p scripts w fs None end → NoneFailed end.state
failure_none n p scripts w end [] times all none run = subst (λ (v : Play). NoneFailed v.state) (sym run.0) none
failure_none n p scripts w end (f ∷ fs) times all none run = elim run.3 [
  | inl fails ↦ absurd (none_some fails.2)
  | inr lives ↦
      let next = move_plays n p scripts f w run.0 run.1 all in
      failure_none n p scripts run.0 end fs times next (move_unfailed n p scripts f w run.0 times run.1 next all.count none lives.0) lives.1
]

pub stops_at_failure : StopsAtFailure
stops_at_failure p scripts = record {
  moves = failure_moves p scripts;
  reference = failure_reference p scripts;
  waits = λ end fs f plan times known run within live no_pair.
      (let opening = opening_plays p in
      let none = failure_none (length p.settings) p scripts (opening_play p) end fs times opening (opening_unfailed p) run in
      stuck_waits p scripts end fs f plan times known (failure_moves p scripts (opening_play p) end fs None run) (failure_still p scripts (opening_play p) end fs run) none within live no_pair);
}
