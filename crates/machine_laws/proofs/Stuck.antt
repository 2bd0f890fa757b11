-- Where scripts end without a failure while a federate lives, two wait for each other.
use Rattle.std.proofs.Common.{◌≡◌, ◌⊎◌, inl, inr, ℕ, zero, suc, ◌<◌, Bool, true, false, arith, refl, sym, ◌∙◌, ap, subst, List, [], ◌∷◌, length, Option, Some, None}
use Rattle.std.specs.Prelude.{option_map, slice_index_or, slice_set, map}
use Rattle.std.proofs.lemmas.Bool.{cases_lt, false≢true}
use Rattle.std.proofs.lemmas.List.{get_or_past, length-set}
use Rattle.helics_time.specs.Settings.{Terms}
use Rattle.due_queue.specs.Item.{Parcel}
use Rattle.time_state.specs.Fed.{is_asking, is_live}
use Rattle.time_state.specs.declared.Cause.TheVariants.{Finished, Failed, Died, Halted}
use Rattle.time_state.specs.declared.Phase.{Phase}
use Rattle.time_state.specs.declared.Phase.TheVariants.{Created, Initializing, Entering, Running, Waiting, Ended}
use Rattle.machine_laws.specs.declared.refusal.CallRefusal.{CallRefusal}
use Rattle.machine_laws.specs.Plan.{Plan}
use Rattle.machine_laws.specs.Machine.{Member, State, Step, blank_member, begun_member, new_member, member_at, with_member, failed_or_died, refusal_of, after, opening, IsRun}
use Rattle.machine_laws.specs.Machine.Step.{begin, grant}
use Rattle.machine_laws.specs.Laws.{AllWait}
use Rattle.machine_laws.specs.Moves.{Doing, Scripts, Play, calls_of, doing_refusal, step_by, or_failure, call_by, in_turn, if_lawful, next_step, moved, move, Moves, IsStill, opening_play, NoneFailed, StuckWaits, steps_of_moves}
use Rattle.machine_laws.specs.Moves.Doing.{enters, makes, requests, finishes, fails}
use Rattle.machine_laws.proofs.Accepted.{may_grant}
use Rattle.machine_laws.proofs.Enabled.{some_grant}
use Rattle.machine_laws.proofs.Keep.{runs_keep}
use Rattle.machine_laws.proofs.Members.{by_member}
use Rattle.machine_laws.proofs.Moves.{moved_is, moves_run}

-- a federate that scripts play: it calls or waits, or has ended by a call of its own
abbrev pub plays_on : Phase → Bool
plays_on Initializing = true
plays_on Entering = true
plays_on Running = true
plays_on Waiting = true
plays_on (Ended Finished) = true
plays_on (Ended Failed) = true
plays_on phase = false

-- so many federates, and scripts play each
pub record AllPlay (n : ℕ) (s : State) : Type 0 where
  pub count : length s.members ≡ n
  pub each : (x : ℕ) → x < length s.members → plays_on (member_at s x).time.phase ≡ true

-- so it is where one of them was changed to such a one
changed_plays : (n : ℕ) (s : State) (f : ℕ) (m : Member) (items : List Parcel) → f < length s.members → plays_on m.time.phase ≡ true → AllPlay n s → AllPlay n (with_member s f m items)
changed_plays n s f m items within new all =
    let same : length (slice_set s.members f m) ≡ length s.members = length-set s.members f m in
    record {
      count = same ∙ all.count;
      each = λ x known. by_member (λ (k : Member). plays_on k.time.phase ≡ true) s f x m items within (λ here. new) (λ other. all.each x (omega (arith, known, same)));
    }

in_phase_known : (s : State) (f : ℕ) (test : Phase → Bool) → test Created ≡ false → test (member_at s f).time.phase ≡ true → f < length s.members
in_phase_known s f test created is = elim (cases_lt f (length s.members)) [
  | inl within ↦ within
  | inr past ↦ absurd (false≢true (sym created ∙ sym (ap (λ (m : Member). test m.time.phase) (get_or_past s.members f blank_member past)) ∙ is))
]

abbrev calls : Phase → Bool
calls Initializing = true
calls Running = true
calls phase = false

calls_play : (q : Phase) → calls q ≡ true → plays_on q ≡ true
calls_play Initializing is = refl
calls_play Running is = refl
calls_play Created is = absurd (false≢true is)
calls_play Entering is = absurd (false≢true is)
calls_play Waiting is = absurd (false≢true is)
calls_play (Ended c) is = absurd (false≢true is)

-- a call leaves such federates
call_plays : (n : ℕ) (p : Plan) (s : State) (f : ℕ) (doing : Doing) → calls (member_at s f).time.phase ≡ true → f < length s.members → AllPlay n s → AllPlay n (after p s (call_by p f (member_at s f) doing))
call_plays n p s f doing calling within all = by_refusal doing (doing_refusal p f (member_at s f) doing)
  where
    by_refusal : (d : Doing) (r : Option CallRefusal) → AllPlay n (after p s (or_failure f (step_by f d) r))
    by_refusal d (Some refusal) = changed_plays n s f _ s.items within refl all
    by_refusal enters None = changed_plays n s f _ s.items within refl all
    by_refusal (makes call) None = changed_plays n s f _ _ within (calls_play (member_at s f).time.phase calling) all
    by_refusal (requests time mode) None = changed_plays n s f _ s.items within refl all
    by_refusal finishes None = changed_plays n s f _ s.items within refl all
    by_refusal (fails text) None = changed_plays n s f _ s.items within refl all

-- and so does a move
pub move_plays : (n : ℕ) (p : Plan) (scripts : Scripts) (f : ℕ) (w a : Play) → move p scripts f w ≡ Some a → AllPlay n w.state → AllPlay n a.state
move_plays n p scripts f w a e all =
    let m = moved_is p scripts f w a e in
    subst (λ (v : Play). AllPlay n v.state) (sym m.is) (by_phase (member_at w.state f).time.phase refl m.step m.choice)
  where
    call : Step
    call = call_by p f (member_at w.state f) (scripts f (calls_of w f) (member_at w.state f).log)

    grants : Option Step
    grants = if_lawful (refusal_of p w.state (grant f)) (grant f)

    called : (step : Step) → calls (member_at w.state f).time.phase ≡ true → Some call ≡ Some step → AllPlay n (after p w.state step)
    called step is same =
        let one : call ≡ step = cc in
        subst (λ (x : Step). AllPlay n (after p w.state x)) one
        (call_plays n p w.state f (scripts f (calls_of w f) (member_at w.state f).log) is (in_phase_known w.state f calls refl is) all)

    granted : (step : Step) → is_asking (member_at w.state f).time.phase ≡ true → grants ≡ Some step → AllPlay n (after p w.state step)
    granted step is same = by_refusal (refusal_of p w.state (grant f)) same
      where
        by_refusal : (r : _) → if_lawful r (grant f) ≡ Some step → AllPlay n (after p w.state step)
        by_refusal None here =
            let one : grant f ≡ step = cc in
            subst (λ (x : Step). AllPlay n (after p w.state x)) one (changed_plays n w.state f _ _ (in_phase_known w.state f is_asking refl is) refl all)
        by_refusal (Some refusal) none = cc

    by_phase : (q : Phase) → (member_at w.state f).time.phase ≡ q → (step : Step) → next_step p scripts w f ≡ Some step → AllPlay n (after p w.state step)
    by_phase Initializing is step choice = called step (ap calls is) (sym (ap (λ (r : Phase). in_turn r (Some call) grants) is) ∙ choice)
    by_phase Running is step choice = called step (ap calls is) (sym (ap (λ (r : Phase). in_turn r (Some call) grants) is) ∙ choice)
    by_phase Entering is step choice = granted step (ap is_asking is) (sym (ap (λ (r : Phase). in_turn r (Some call) grants) is) ∙ choice)
    by_phase Waiting is step choice = granted step (ap is_asking is) (sym (ap (λ (r : Phase). in_turn r (Some call) grants) is) ∙ choice)
    by_phase Created is step choice = let none : None ≡ Some step = sym (ap (λ (r : Phase). in_turn r (Some call) grants) is) ∙ choice in cc
    by_phase (Ended c) is step choice = let none : None ≡ Some step = sym (ap (λ (r : Phase). in_turn r (Some call) grants) is) ∙ choice in cc

moves_play : (n : ℕ) (p : Plan) (scripts : Scripts) (w end : Play) (fs : List ℕ) → Moves p scripts w fs end → AllPlay n w.state → AllPlay n end.state
moves_play n p scripts w end [] moves all = subst (λ (v : Play). AllPlay n v.state) (sym moves) all
moves_play n p scripts w end (f ∷ fs) moves all = moves_play n p scripts moves.0 end fs moves.2 (move_plays n p scripts f w moves.0 moves.1 all)

-- at the opening every federate is Initializing
pub opening_plays : (p : Plan) → AllPlay (length p.settings) (opening_play p).state
opening_plays p = record { count = count p.settings; each = each p.settings }
  where
    count : (ts : List Terms) → length (map begun_member (map new_member ts)) ≡ length ts
    count [] = refl
    count (t ∷ ts) = ap suc (count ts)

    each : (ts : List Terms) (x : ℕ) → x < length (map begun_member (map new_member ts)) → plays_on (slice_index_or (map begun_member (map new_member ts)) x blank_member).time.phase ≡ true
    each [] x within = absurd (omega (arith, within))
    each (t ∷ ts) zero within = refl
    each (t ∷ ts) (suc x) within = each ts x (omega (arith, within))

-- where nobody moves, each waits or has finished
all_wait : (p : Plan) (scripts : Scripts) (end : Play) (n : ℕ) → AllPlay n end.state → IsStill p scripts end → NoneFailed end.state → AllWait end.state
all_wait p scripts end n all still none x within = by_phase (member_at end.state x).time.phase refl (all.each x within) (none x within)
  where
    call : Step
    call = call_by p x (member_at end.state x) (scripts x (calls_of end x) (member_at end.state x).log)

    moves : (q : Phase) → (member_at end.state x).time.phase ≡ q → calls q ≡ true → ⊥
    moves q is calling = by_call q is calling
      where
        some : (r : Phase) → calls r ≡ true → in_turn r (Some call) (if_lawful (refusal_of p end.state (grant x)) (grant x)) ≡ Some call
        some Initializing c = refl
        some Running c = refl
        some Created c = absurd (false≢true c)
        some Entering c = absurd (false≢true c)
        some Waiting c = absurd (false≢true c)
        some (Ended e) c = absurd (false≢true c)

        by_call : (r : Phase) → (member_at end.state x).time.phase ≡ r → calls r ≡ true → ⊥
        by_call r here c =
            let step = some (member_at end.state x).time.phase (ap calls here ∙ c) in
            let moving : None ≡ Some (moved p end x call) = sym (still x) ∙ ap (option_map (moved p end x)) step in
            cc

    by_phase : (q : Phase) → (member_at end.state x).time.phase ≡ q → plays_on (member_at end.state x).time.phase ≡ true → failed_or_died (member_at end.state x).time.phase ≡ false →
        (is_asking (member_at end.state x).time.phase ≡ true) ⊎ ((member_at end.state x).time.phase ≡ Ended Finished)
    by_phase Initializing is plays lives = absurd (moves Initializing is refl)
    by_phase Running is plays lives = absurd (moves Running is refl)
    by_phase Entering is plays lives = inl (ap is_asking is)
    by_phase Waiting is plays lives = inl (ap is_asking is)
    by_phase (Ended Finished) is plays lives = inr is
    by_phase (Ended Failed) is plays lives = absurd (false≢true (sym lives ∙ ap failed_or_died is))
    by_phase (Ended Died) is plays lives = absurd (false≢true (sym (ap plays_on is) ∙ plays))
    by_phase (Ended (Halted g)) is plays lives = absurd (false≢true (sym (ap plays_on is) ∙ plays))
    by_phase Created is plays lives = absurd (false≢true (sym (ap plays_on is) ∙ plays))

grant_lawful : (p : Plan) (s : State) (f : ℕ) → refusal_of p s (grant f) ≡ None → is_asking (member_at s f).time.phase ≡ true
grant_lawful p s f none = (may_grant p s f none).asks

pub stuck_waits : StuckWaits
stuck_waits p scripts end fs f plan times known moves still none within live no_pair =
    let w : Play = opening_play p in
    let began : IsRun p (opening p) (begin ∷ []) w.state = ((refl, tt), refl) in
    let keeps = runs_keep p (begin ∷ []) w.state plan began in
    let run = moves_run p scripts w end fs plan times keeps moves in
    let all = moves_play (length p.settings) p scripts w end fs moves (opening_plays p) in
    let waits = all_wait p scripts end (length p.settings) all still none in
    let many = all.count in
    let asks : is_asking (member_at end.state f).time.phase ≡ true = elim (waits f within) [
      | inl asking ↦ asking
      | inr finished ↦ absurd (false≢true (sym (ap is_live finished) ∙ live))
    ] in
    let free = some_grant p end.state (begin ∷ steps_of_moves p scripts w fs) f plan (λ a b anc. (let less = known a b anc in omega (arith, less, many))) ((refl, tt), run.0) waits within asks no_pair in
    let asking = grant_lawful p end.state free.0 free.1 in
    let step : next_step p scripts end free.0 ≡ Some (grant free.0) =
    by_phase _ (if_lawful (refusal_of p end.state (grant free.0)) (grant free.0)) (member_at end.state free.0).time.phase asking ∙ lawful_grant (refusal_of p end.state (grant free.0)) free.1 in
    let moving : None ≡ Some (moved p end free.0 (grant free.0)) = sym (still free.0) ∙ ap (option_map (moved p end free.0)) step in
    cc
  where
    lawful_grant : {g : ℕ} (r : _) → r ≡ None → if_lawful r (grant g) ≡ Some (grant g)
    lawful_grant None is = refl
    lawful_grant (Some refusal) is = cc

    by_phase : (call grants : Option Step) (q : Phase) → is_asking q ≡ true → in_turn q call grants ≡ grants
    by_phase call grants Entering asks = refl
    by_phase call grants Waiting asks = refl
    by_phase call grants Created asks = absurd (false≢true asks)
    by_phase call grants Initializing asks = absurd (false≢true asks)
    by_phase call grants Running asks = absurd (false≢true asks)
    by_phase call grants (Ended c) asks = absurd (false≢true asks)

-- nobody has failed at the opening
pub opening_unfailed : (p : Plan) → NoneFailed (opening_play p).state
opening_unfailed p = each p.settings
  where
    each : (ts : List Terms) (x : ℕ) → x < length (map begun_member (map new_member ts)) → failed_or_died (slice_index_or (map begun_member (map new_member ts)) x blank_member).time.phase ≡ false
    each [] x within = absurd (omega (arith, within))
    each (t ∷ ts) zero within = refl
    each (t ∷ ts) (suc x) within = each ts x (omega (arith, within))
