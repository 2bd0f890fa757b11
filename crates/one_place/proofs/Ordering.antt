-- Runs in other orders, turn by turn.
use Rattle.std.proofs.Common.{◌≡◌, ◌<◌, ◌≤◌, ◌+◌, ◌%◌, ℕ, zero, suc, Bool, true, false, List, [], ◌∷◌, length, drop, slice_get, Option, Some, None, inl, inr, refl, ◌∙◌, ap, subst, arith}
use Rattle.std.specs.Prelude.{is_some, slice_set, cond}
use Rattle.std.proofs.lemmas.Bool.{cases_lt}
use Rattle.machine_laws.specs.Machine.{after, member_at}
use Rattle.machine_laws.specs.Moves.{Scripts, Play, move, is_failed}
use Rattle.one_place.specs.declared.actor.Actor.{Actor}
use Rattle.federation_plan.specs.Plan.{Federation}
use Rattle.federation_plan.specs.Wires.{wires_of}
use Rattle.one_place.specs.Machine.{Stage}
use Rattle.one_place.specs.Orders.{pick, first_number, movers, IsOrdered, IsUpTo}
use Rattle.one_place.specs.Playing.{movers_at, LeadsOn}
use Rattle.one_place.specs.Run.{wires_at, play_of, may_move, step_at, actor_after, actor_at, AreActors, AreFollowing, IsNextToMove, Played, Leads}
use Rattle.one_place.proofs.Movers.{passing}
use Rattle.one_place.proofs.Scripts.{strange_stays}
use Rattle.one_place.proofs.Turns.{IsTurned, turned, stays}

-- ---- those that pass a test

passing_same : (test other : ℕ → Bool) (f n : ℕ) → ((g : ℕ) → g < f + n → test g ≡ other g) → passing test f n ≡ passing other f n
passing_same test other f zero same = refl
passing_same test other f (suc n) same =
    let rest : passing test (f + 1) n ≡ passing other (f + 1) n = passing_same test other (f + 1) n (λ g less. same g (omega (arith, less))) in
    (λ i. cond (same f (omega arith) i) (f ∷ rest i) (rest i))

-- each of them passes
passing_is : (test : ℕ → Bool) (f n i g : ℕ) → slice_get (passing test f n) i ≡ Some g → test g ≡ true
passing_is test f zero i g at = cc
passing_is test f (suc n) i g at = by_test (test f) refl at (λ j more. passing_is test (f + 1) n j g more)
  where
    by_first : (j : ℕ) → test f ≡ true → slice_get (f ∷ passing test (f + 1) n) j ≡ Some g → ((k : ℕ) → slice_get (passing test (f + 1) n) k ≡ Some g → test g ≡ true) → test g ≡ true
    by_first zero is here more = let same : f ≡ g = cc in subst (λ k. test k ≡ true) same is
    by_first (suc j) is here more = more j here

    by_test : (b : Bool) → test f ≡ b → slice_get (cond b (f ∷ passing test (f + 1) n) (passing test (f + 1) n)) i ≡ Some g → ((k : ℕ) → slice_get (passing test (f + 1) n) k ≡ Some g → test g ≡ true) → test g ≡ true
    by_test true is here more = by_first i is here more
    by_test false is here more = more i here

-- where there is none, no number passes
passing_none : (test : ℕ → Bool) (f n : ℕ) → passing test f n ≡ [] → (g : ℕ) → f ≤ g → g < f + n → test g ≡ false
passing_none test f zero none g low high = absurd (omega (arith, low, high))
passing_none test f (suc n) none g low high = by_test (test f) refl none (λ more above. passing_none test (f + 1) n more g above (omega (arith, high)))
  where
    by_test : (b : Bool) → test f ≡ b → (cond b (f ∷ passing test (f + 1) n) (passing test (f + 1) n)) ≡ [] → (passing test (f + 1) n ≡ [] → f + 1 ≤ g → test g ≡ false) → test g ≡ false
    by_test true is some more = cc
    by_test false is less more = elim (cases_lt f g) [
      | inl above ↦ more less (omega (arith, above))
      | inr same ↦ let here : f ≡ g = omega (arith, low, same) in subst (λ k. test k ≡ false) here is
    ]

-- a place within a list
within_list : (fs : List ℕ) (i : ℕ) → i < length fs → slice_get fs i ≡ None → ⊥
within_list [] i less none = omega (arith, less)
within_list (f ∷ fs) zero less none = cc
within_list (f ∷ fs) (suc i) less none = within_list fs i (omega (arith, less)) none

-- one is picked unless there is none
picked_none : (number : ℕ) (fs : List ℕ) → pick number fs ≡ None → fs ≡ []
picked_none number [] none = refl
picked_none number (f ∷ fs) none = absurd (within_list (f ∷ fs) (number % length (f ∷ fs)) (omega arith) none)

picked_at : (number : ℕ) (fs : List ℕ) (f : ℕ) → pick number fs ≡ Some f → (i : ℕ) × (slice_get fs i ≡ Some f)
picked_at number [] f none = cc
picked_at number (g ∷ fs) f at = (number % length (g ∷ fs), at)

-- ---- the federates that may move

-- a picked federate may act
pub picked_moves : (s : Stage) (number f : ℕ) → pick number (movers_at s) ≡ Some f → may_move s f ≡ true
picked_moves s number f at = let place = picked_at number (movers_at s) f at in passing_is (may_move s) 0 (length s.state.members) place.0 f place.1

-- where none is picked, none may act
pub none_picked : (s : Stage) (number : ℕ) → pick number (movers_at s) ≡ None → (f : ℕ) → may_move s f ≡ false
none_picked s number none f = elim (cases_lt f (length s.state.members)) [
  | inl within ↦ passing_none (may_move s) 0 (length s.state.members) (picked_none number (movers_at s) none) f (omega arith) (omega (arith, within))
  | inr over ↦ strange_stays s f over
]

-- who may act moves, and who may not doesn't
moves_are : (s : Stage) (actors : List Actor) (plays : Scripts) (calls : List ℕ) (f : ℕ) → AreActors s.state actors → AreFollowing plays s calls actors →
    is_some (move (wires_at s) plays f (play_of s calls)) ≡ may_move s f
moves_are s actors plays calls f ready follows = by_may (may_move s f) refl
  where
    by_may : (b : Bool) → may_move s f ≡ b → is_some (move (wires_at s) plays f (play_of s calls)) ≡ b
    by_may true may =
        let t : Stage = record s { state = after (wires_at s) s.state (step_at s f (actor_at actors f)) } in
        let turn = (turned s t f actors (slice_set actors f (actor_after s f (actor_at actors f))) ready may refl refl).moves plays calls follows in
        ap (λ (o : Option Play). is_some o) turn.1
    by_may false not = ap (λ (o : Option Play). is_some o) (stays s plays calls f not)

movers_are : (s : Stage) (actors : List Actor) (plays : Scripts) (calls : List ℕ) → AreActors s.state actors → AreFollowing plays s calls actors →
    movers (wires_at s) plays (play_of s calls) ≡ movers_at s
movers_are s actors plays calls ready follows =
    passing_same (λ f. is_some (move (wires_at s) plays f (play_of s calls))) (may_move s) 0 (length s.state.members) (λ g less. moves_are s actors plays calls g ready follows)

-- ---- turns

-- the picked one moves, and then the rest
first_picked : (s t : Stage) (actors : List Actor) (plays : Scripts) (calls next order : List ℕ) (f : ℕ) (end : Play) → AreActors s.state actors → AreFollowing plays s calls actors →
    pick (first_number order) (movers_at s) ≡ Some f → move (wires_at s) plays f (play_of s calls) ≡ Some (play_of t next) → t.plan ≡ s.plan →
    Played (IsOrdered (drop 1 order)) (wires_at t) plays (play_of t next) end → Played (IsOrdered order) (wires_at s) plays (play_of s calls) end
first_picked s t actors plays cs ds order f end ready follows at moves same rest =
    let more : Played (IsOrdered (drop 1 order)) (wires_at s) plays (play_of t ds) end = subst (λ (plan : Federation). Played (IsOrdered (drop 1 order)) (wires_of plan) plays (play_of t ds) end) same rest in
    let picks = ap (pick (first_number order)) (movers_are s actors plays cs ready follows) ∙ at in
    (f ∷ more.0, (play_of t ds, moves, picks, more.1))

pub last_picked : (s : Stage) (plays : Scripts) (calls order : List ℕ) → ((f : ℕ) → may_move s f ≡ false) → Played (IsOrdered order) (wires_at s) plays (play_of s calls) (play_of s calls)
last_picked s plays cs order none = ([], (refl, λ f. stays s plays cs f (none f)))

-- a move that isn't a failure, and then the rest
first_lives : (s t : Stage) (plays : Scripts) (calls next : List ℕ) (f : ℕ) (failed : Option ℕ) (end : Play) → IsNextToMove s f →
    move (wires_at s) plays f (play_of s calls) ≡ Some (play_of t next) → t.plan ≡ s.plan → is_failed (member_at t.state f).time.phase ≡ false →
    Played (IsUpTo failed) (wires_at t) plays (play_of t next) end → Played (IsUpTo failed) (wires_at s) plays (play_of s calls) end
first_lives s t plays cs ds f failed end next moves same lives rest =
    let more : Played (IsUpTo failed) (wires_at s) plays (play_of t ds) end = subst (λ (plan : Federation). Played (IsUpTo failed) (wires_of plan) plays (play_of t ds) end) same rest in
    (f ∷ more.0, (play_of t ds, moves, (λ g less. stays s plays cs g (next.least g less)), inr (lives, more.1)))

-- a move that is one ends the run
pub first_fails : (s t : Stage) (plays : Scripts) (calls next : List ℕ) (f : ℕ) → IsNextToMove s f →
    move (wires_at s) plays f (play_of s calls) ≡ Some (play_of t next) → is_failed (member_at t.state f).time.phase ≡ true →
    Played (IsUpTo (Some f)) (wires_at s) plays (play_of s calls) (play_of t next)
first_fails s t plays cs ds f next moves fails = (f ∷ [], (play_of t ds, moves, (λ g less. stays s plays cs g (next.least g less)), inl (fails, refl, refl, refl)))

pub none_fails : (s : Stage) (plays : Scripts) (calls : List ℕ) → ((f : ℕ) → may_move s f ≡ false) → Played (IsUpTo None) (wires_at s) plays (play_of s calls) (play_of s calls)
none_fails s plays cs none = ([], (refl, refl, λ f. stays s plays cs f (none f)))

-- ---- how runs go on

-- by a turn of the picked one
pub picked_leads : (s t : Stage) (f : ℕ) (order : List ℕ) (actors rest : List Actor) → AreActors s.state actors → pick (first_number order) (movers_at s) ≡ Some f → t.plan ≡ s.plan → IsTurned s f actors t rest →
    Leads (IsOrdered order) (IsOrdered (drop 1 order)) s actors t rest
picked_leads s t f order actors rest ready at plan turn =
    record {
      plan = plan;
      ready = turn.ready;
      more = λ plays cs follows.
          (let moved = turn.moves plays cs follows in
          (moved.0, moved.2, (λ end out. first_picked s t actors plays cs moved.0 order f end ready follows at moved.1 plan out)));
    }

-- by a turn that is no failure
pub living_leads : (s t : Stage) (f : ℕ) (actors rest : List Actor) → IsNextToMove s f → t.plan ≡ s.plan → is_failed (member_at t.state f).time.phase ≡ false → IsTurned s f actors t rest → LeadsOn s actors t rest
living_leads s t f actors rest next plan lives turn failed =
    record {
      plan = plan;
      ready = turn.ready;
      more = λ plays cs follows.
          (let moved = turn.moves plays cs follows in
          (moved.0, moved.2, (λ end out. first_lives s t plays cs moved.0 f failed end next moved.1 plan lives out)));
    }

pub failing_ends : (s t u : Stage) (f : ℕ) (actors there rest : List Actor) → LeadsOn s actors t there → IsNextToMove t f → is_failed (member_at u.state f).time.phase ≡ true → IsTurned t f there u rest →
    (plays : Scripts) (calls : List ℕ) → AreFollowing plays s calls actors → (end : List ℕ) × Played (IsUpTo (Some f)) (wires_at s) plays (play_of s calls) (play_of u end)
failing_ends s t u f actors there rest leads next fails turn plays cs follows =
    let now = (leads (Some f)).more plays cs follows in
    let moved = turn.moves plays now.0 now.1 in
    (moved.0, now.2 (play_of u moved.0) (first_fails t u plays now.0 moved.0 f next moved.1 fails))

pub failure_through : (s t u : Stage) (f : ℕ) (actors there : List Actor) → LeadsOn s actors t there →
    ((plays : Scripts) (calls : List ℕ) → AreFollowing plays t calls there → (end : List ℕ) × Played (IsUpTo (Some f)) (wires_at t) plays (play_of t calls) (play_of u end)) →
    (plays : Scripts) (calls : List ℕ) → AreFollowing plays s calls actors → (end : List ℕ) × Played (IsUpTo (Some f)) (wires_at s) plays (play_of s calls) (play_of u end)
failure_through s t u f actors there leads fails plays cs follows =
    let now = (leads (Some f)).more plays cs follows in
    let end = fails plays now.0 now.1 in
    (end.0, now.2 (play_of u end.0) end.1)

pub still_ends : (s t : Stage) (actors rest : List Actor) → LeadsOn s actors t rest → ((f : ℕ) → may_move t f ≡ false) →
    (plays : Scripts) (calls : List ℕ) → AreFollowing plays s calls actors → (end : List ℕ) × Played (IsUpTo None) (wires_at s) plays (play_of s calls) (play_of t end)
still_ends s t actors rest leads none plays cs follows =
    let now = (leads None).more plays cs follows in
    (now.0, now.2 (play_of t now.0) (none_fails t plays now.0 none))

pub order_ends : (s t : Stage) (order left : List ℕ) (actors rest : List Actor) → Leads (IsOrdered order) (IsOrdered left) s actors t rest → ((f : ℕ) → may_move t f ≡ false) →
    (plays : Scripts) (calls : List ℕ) → AreFollowing plays s calls actors → (end : List ℕ) × Played (IsOrdered order) (wires_at s) plays (play_of s calls) (play_of t end)
order_ends s t order left actors rest leads none plays cs follows =
    let now = leads.more plays cs follows in
    (now.0, now.2 (play_of t now.0) (last_picked t plays now.0 left none))
