-- Moves of scripted federates are lawful steps, and those of two federates commute.
use Rattle.std.proofs.Common.{◌≡◌, ◌≢◌, ◌⊎◌, inl, inr, ℕ, suc, ◌+◌, ◌<◌, Bool, true, false, refl, sym, ◌∙◌, ap, subst, List, [], ◌∷◌, ◌++◌, length, get_or, set, Option, Some, None}
use Rattle.std.specs.Prelude.{if◌then◌else◌, option_map, option_to_list, unwrap_or}
use Rattle.std.proofs.lemmas.Bool.{cases_lt, false≢true}
use Rattle.std.proofs.lemmas.List.{get_or-set_other, set_comm, get_or_past}
use Rattle.time_state.specs.Fed.{is_asking}
use Rattle.time_state.specs.declared.Phase.{Phase}
use Rattle.time_state.specs.declared.Phase.TheVariants.{Initializing, Entering, Running, Waiting, Ended}
use Rattle.machine_laws.specs.declared.refusal.CallRefusal.{CallRefusal}
use Rattle.machine_laws.specs.declared.refusal.Unlawful.{Unlawful}
use Rattle.machine_laws.specs.declared.refusal.Unlawful.TheVariants.{Refused}
use Rattle.machine_laws.specs.Refusal.{refusal_word}
use Rattle.machine_laws.specs.Plan.{Plan, IsPlan}
use Rattle.machine_laws.specs.Machine.{Member, State, Step, member_at, blank_member, end_refusal, if_refused, refusal_of, KeepsTime, IsLawful, after, IsRun}
use Rattle.machine_laws.specs.Machine.Step.{grant}
use Rattle.machine_laws.specs.Laws.{Keeps}
use Rattle.machine_laws.specs.Moves.{Doing, step_by, Scripts, Play, calls_of, doing_refusal, or_failure, call_by, in_turn, if_lawful, next_step, is_call, moved, move, KeepsTimes, Diamond, steps_of_moves, MovesRun, is_calling}
use Rattle.machine_laws.specs.Moves.Doing.{enters, makes, requests, finishes, fails}
use Rattle.machine_laws.proofs.Accepted.{known_is}
use Rattle.machine_laws.proofs.CallGrant.{call_grant}
use Rattle.machine_laws.proofs.Calls.{Calls, Commutes, call_call, flip, calls_enter, calls_make, calls_request, calls_finish, calls_fail}
use Rattle.machine_laws.proofs.GrantsCommute.{grant_grant}
use Rattle.machine_laws.proofs.Keep.{keeps_step}
use Rattle.machine_laws.proofs.Members.{other_member}

-- a federate that does something calls, or asks for a grant
cases_phase : (q : Phase) (call grants : Option Step) (step : Step) → in_turn q call grants ≡ Some step →
    ((is_calling q ≡ true) × (call ≡ Some step)) ⊎ ((is_asking q ≡ true) × (grants ≡ Some step))
cases_phase Initializing call grants step e = inl (refl, e)
cases_phase Running call grants step e = inl (refl, e)
cases_phase Entering call grants step e = inr (refl, e)
cases_phase Waiting call grants step e = inr (refl, e)
cases_phase phase call grants step e = cc

-- so one in a phase of calls takes its call
pub phase_calls : (q : Phase) (call grants : Option Step) → is_calling q ≡ true → in_turn q call grants ≡ call
phase_calls Initializing call grants e = refl
phase_calls Running call grants e = refl
phase_calls phase call grants e = absurd (false≢true e)

-- and one that asks takes its grant
pub phase_asks : (q : Phase) (call grants : Option Step) → is_asking q ≡ true → in_turn q call grants ≡ grants
phase_asks Entering call grants e = refl
phase_asks Waiting call grants e = refl
phase_asks phase call grants e = absurd (false≢true e)

-- a federate that calls lives
pub calling_lives : (q : Phase) → is_calling q ≡ true → end_refusal q ≡ None
calling_lives (Ended c) e = absurd (false≢true e)
calling_lives phase e = refl

some_same : {A : Type 0} {x y : A} → Some x ≡ Some y → x ≡ y
some_same e = cc

-- a step that is taken where it is lawful is lawful
lawful_same : (r : Option Unlawful) (x y : Step) → if_lawful r x ≡ Some y → (r ≡ None) × (y ≡ x)
lawful_same None x y e = (refl, sym (some_same e))
lawful_same (Some z) x y e = cc

-- and is the plan's
pub calling_known : (s : State) (f : ℕ) → is_calling (member_at s f).time.phase ≡ true → f < length s.members
calling_known s f calling = elim (cases_lt f (length s.members)) [
  | inl within ↦ within
  | inr past ↦ absurd (false≢true (sym (ap (λ (m : Member). is_calling m.time.phase) (get_or_past s.members f blank_member past)) ∙ calling))
]

-- an accepted call of a federate of the plan
accepts : (s : State) (f : ℕ) (r : Option CallRefusal) → f < length s.members → r ≡ None → if_refused s f r ≡ None
accepts s f r within none = known_is s f (option_map Refused r) within ∙ ap (option_map Refused) none

-- what a script does is a call
calls_by : (p : Plan) (f : ℕ) (doing : Doing) → KeepsTime (step_by f doing) → Calls p f (step_by f doing)
calls_by p f enters times = calls_enter p f
calls_by p f (makes call) times = calls_make p f call
calls_by p f (requests time mode) times = calls_request p f time mode times
calls_by p f finishes times = calls_finish p f
calls_by p f (fails text) times = calls_fail p f text

-- and is refused as a call
refusal_by : (p : Plan) (s : State) (f : ℕ) (doing : Doing) → refusal_of p s (step_by f doing) ≡ if_refused s f (doing_refusal p f (member_at s f) doing)
refusal_by p s f enters = refl
refusal_by p s f doing = refl

-- what a script calls is a call, and lawful, or else the failure in its place
record Called (p : Plan) (s : State) (f : ℕ) (step : Step) : Type 0 where
  calls : Calls p f step
  lawful : IsLawful p s step

called : (p : Plan) (s : State) (f : ℕ) (doing : Doing) → KeepsTime (step_by f doing) → is_calling (member_at s f).time.phase ≡ true → Called p s f (call_by p f (member_at s f) doing)
called p s f doing times calling = by_refusal (doing_refusal p f (member_at s f) doing) refl
  where
    within : f < length s.members
    within = calling_known s f calling

    by_refusal : (r : Option CallRefusal) → doing_refusal p f (member_at s f) doing ≡ r → Called p s f (or_failure f (step_by f doing) r)
    by_refusal None none = record {
      calls = calls_by p f doing times;
      lawful = (refusal_by p s f doing ∙ accepts s f _ within none, times);
    }
    by_refusal (Some refusal) is = record {
      calls = calls_fail p f (refusal_word refusal);
      lawful = (accepts s f _ within (calling_lives (member_at s f).time.phase calling), tt);
    }

-- what is known of the step that a federate would take
pub record Chosen (p : Plan) (scripts : Scripts) (w : Play) (f : ℕ) (step : Step) : Type 0 where
  pub own : Calls p f step ⊎ (step ≡ grant f)
  lawful : IsLawful p w.state step
  -- it would take it from each play where its member and its calls are the same and the step is lawful
  again : (v : Play) → member_at v.state f ≡ member_at w.state f → calls_of v f ≡ calls_of w f → refusal_of p v.state step ≡ None → next_step p scripts v f ≡ Some step

-- the step that a federate would take is its call or its grant
pub chosen_is : (p : Plan) (scripts : Scripts) (w : Play) (f : ℕ) (step : Step) → KeepsTimes scripts → next_step p scripts w f ≡ Some step → Chosen p scripts w f step
chosen_is p scripts w f step times choice = elim (cases_phase m.time.phase (Some call) grants step choice) [
  | inl calling ↦
      let made = called p w.state f (scripts f (calls_of w f) m.log) (times f (calls_of w f) m.log) calling.0 in
      subst (λ (x : Step). Chosen p scripts w f x) (some_same calling.1) (record {
        own = inl made.calls;
        lawful = made.lawful;
        again = λ v member calls lawful.
            phase_calls (member_at v.state f).time.phase _ _ (ap (λ (n : Member). is_calling n.time.phase) member ∙ calling.0)
            ∙ ap (λ (n : Member). Some (call_by p f n (scripts f (calls_of v f) n.log))) member
            ∙ ap (λ (k : ℕ). Some (call_by p f m (scripts f k m.log))) calls;
      })
  | inr asking ↦
      let k = lawful_same (refusal_of p w.state (grant f)) (grant f) step asking.1 in
      subst (λ (x : Step). Chosen p scripts w f x) (sym k.1) (record {
        own = inr refl;
        lawful = (k.0, tt);
        again = λ v member calls lawful.
            phase_asks (member_at v.state f).time.phase _ _ (ap (λ (n : Member). is_asking n.time.phase) member ∙ asking.0)
            ∙ ap (λ (r : Option Unlawful). if_lawful r (grant f)) lawful;
      })
]
  where
    m : Member
    m = member_at w.state f

    call : Step
    call = call_by p f m (scripts f (calls_of w f) m.log)

    grants : Option Step
    grants = if_lawful (refusal_of p w.state (grant f)) (grant f)

-- a move is of the step that its federate would take
pub record Moved (p : Plan) (scripts : Scripts) (f : ℕ) (w a : Play) : Type 0 where
  pub step : Step
  pub choice : next_step p scripts w f ≡ Some step
  pub is : a ≡ moved p w f step

pub moved_is : (p : Plan) (scripts : Scripts) (f : ℕ) (w a : Play) → move p scripts f w ≡ Some a → Moved p scripts f w a
moved_is p scripts f w a e = by_choice (next_step p scripts w f) refl e
  where
    by_choice : (o : Option Step) → next_step p scripts w f ≡ o → option_map (moved p w f) o ≡ Some a → Moved p scripts f w a
    by_choice None is none = cc
    by_choice (Some step) is some = record { step = step; choice = is; is = sym (some_same some) }

-- a call, and a step that is a grant
call_then : (p : Plan) (s : State) (f g : ℕ) (a b : Step) → IsPlan p → Keeps p s → f ≢ g → Calls p f a → b ≡ grant g → IsLawful p s a → IsLawful p s b → Commutes p s a b
call_then p s f g a b plan keeps differs calls grants lawful_a lawful_b =
    subst (λ (x : Step). Commutes p s a x) (sym grants) (call_grant p s f g a plan keeps differs calls lawful_a (subst (λ (x : Step). refusal_of p s x ≡ None) grants lawful_b.0))

-- steps of two federates commute
steps_commute : (p : Plan) (s : State) (f g : ℕ) (a b : Step) → IsPlan p → Keeps p s → f ≢ g → Calls p f a ⊎ (a ≡ grant f) → Calls p g b ⊎ (b ≡ grant g) → IsLawful p s a → IsLawful p s b → Commutes p s a b
steps_commute p s f g a b plan keeps differs (inl first) (inl second) lawful_a lawful_b = call_call p s f g a b differs first second lawful_a.0 lawful_b.0
steps_commute p s f g a b plan keeps differs (inl first) (inr grants) lawful_a lawful_b = call_then p s f g a b plan keeps differs first grants lawful_a lawful_b
steps_commute p s f g a b plan keeps differs (inr grants) (inl second) lawful_a lawful_b =
    flip p s b a (call_then p s g f b a plan keeps (λ e. differs (sym e)) second grants lawful_b lawful_a)
steps_commute p s f g a b plan keeps differs (inr grants) (inr also) lawful_a lawful_b =
    subst (λ (x : Step). Commutes p s x b) (sym grants) (subst (λ (y : Step). Commutes p s (grant f) y) (sym also)
    (grant_grant p s f g differs (subst (λ (x : Step). refusal_of p s x ≡ None) grants lawful_a.0) (subst (λ (x : Step). refusal_of p s x ≡ None) also lawful_b.0)))

-- a step of f leaves the member of g
pub member_stays : (p : Plan) (s : State) (f g : ℕ) (a : Step) → f ≢ g → Calls p f a ⊎ (a ≡ grant f) → member_at (after p s a) g ≡ member_at s g
member_stays p s f g a differs (inl calls) = ap (λ (t : State). member_at t g) (calls.does s) ∙ other_member s f g _ s.items differs
member_stays p s f g a differs (inr grants) = subst (λ (x : Step). member_at (after p s x) g ≡ member_at s g) (sym grants) (other_member s f g _ s.items differs)

-- the calls of each federate after one more of f, if it was a call
abbrev counted : Bool → List ℕ → ℕ → List ℕ
counted call calls f = if call then set calls f (get_or calls f 0 + 1) else calls

-- another's calls stay
count_stays : (call : Bool) (calls : List ℕ) (f g : ℕ) → f ≢ g → get_or (counted call calls f) g 0 ≡ get_or calls g 0
count_stays true calls f g differs = get_or-set_other calls f g _ 0 (λ e. differs (sym e))
count_stays false calls f g differs = refl

-- and counts commute
counts_commute : (a b : Bool) (calls : List ℕ) (f g : ℕ) → f ≢ g → counted b (counted a calls f) g ≡ counted a (counted b calls g) f
counts_commute true true calls f g differs =
    ap (λ (k : ℕ). set (set calls f (get_or calls f 0 + 1)) g (k + 1)) (count_stays true calls f g differs)
    ∙ set_comm calls f g (get_or calls f 0 + 1) (get_or calls g 0 + 1) differs
    ∙ ap (λ (k : ℕ). set (set calls g (get_or calls g 0 + 1)) f (k + 1)) (sym (count_stays true calls g f (λ e. differs (sym e))))
counts_commute true false calls f g differs = refl
counts_commute false b calls f g differs = refl

-- so a move may be taken after one of another federate
second_move : (p : Plan) (scripts : Scripts) (w : Play) (f g : ℕ) (a b : Step) → f ≢ g → Chosen p scripts w f a → Chosen p scripts w g b → refusal_of p (after p w.state a) b ≡ None →
    move p scripts g (moved p w f a) ≡ Some (moved p (moved p w f a) g b)
second_move p scripts w f g a b differs first second lawful =
    ap (option_map (moved p (moved p w f a) g))
    (second.again (moved p w f a) (member_stays p w.state f g a differs first.own) (count_stays (is_call a) w.calls f g differs) lawful)

-- and the two end alike in either order
plays_same : (p : Plan) (w : Play) (f g : ℕ) (a b : Step) → f ≢ g → Commutes p w.state a b → moved p (moved p w f a) g b ≡ moved p (moved p w g b) f a
plays_same p w f g a b differs commutes =
    let states = commutes.same in
    let calls = counts_commute (is_call a) (is_call b) w.calls f g differs in
    λ i. record { state = states i; calls = calls i }

pub diamond : Diamond
diamond p scripts w a b f g plan times keeps differs first second =
    let x = moved_is p scripts f w a first in
    let y = moved_is p scripts g w b second in
    let fx = chosen_is p scripts w f x.step times x.choice in
    let gy = chosen_is p scripts w g y.step times y.choice in
    let commutes = steps_commute p w.state f g x.step y.step plan keeps differs fx.own gy.own fx.lawful gy.lawful in
    let c : Play = moved p (moved p w f x.step) g y.step in (
      c,
      ap (move p scripts g) x.is ∙ second_move p scripts w f g x.step y.step differs fx gy commutes.lawful,
      ap (move p scripts f) y.is ∙ second_move p scripts w g f y.step x.step (λ e. differs (sym e)) gy fx commutes.back ∙ ap (λ (v : Play). Some v) (sym (plays_same p w f g x.step y.step differs commutes)),
    )

-- a move keeps what every state of a run keeps
pub move_keeps : (p : Plan) (scripts : Scripts) (f : ℕ) (w a : Play) → IsPlan p → KeepsTimes scripts → Keeps p w.state → move p scripts f w ≡ Some a → Keeps p a.state
move_keeps p scripts f w a plan times keeps e =
    let x = moved_is p scripts f w a e in
    subst (λ (v : Play). Keeps p v.state) (sym x.is) (keeps_step p w.state x.step plan keeps (chosen_is p scripts w f x.step times x.choice).lawful)

-- the steps of a move and those behind it
steps_next : (p : Plan) (scripts : Scripts) (w next : Play) (f : ℕ) (fs : List ℕ) (step : Step) → next_step p scripts w f ≡ Some step → move p scripts f w ≡ Some next →
    steps_of_moves p scripts w (f ∷ fs) ≡ step ∷ steps_of_moves p scripts next fs
steps_next p scripts w next f fs step choice moves =
    ap (λ (o : Option Step). option_to_list o ++ steps_of_moves p scripts (unwrap_or (move p scripts f w) w) fs) choice
    ∙ ap (λ (o : Option Play). step ∷ steps_of_moves p scripts (unwrap_or o w) fs) moves

pub moves_run : MovesRun
moves_run p scripts w end [] plan times keeps moves = (ap (λ (v : Play). v.state) moves, refl)
moves_run p scripts w end (f ∷ fs) plan times keeps moves =
    let x = moved_is p scripts f w moves.0 moves.1 in
    let choice = chosen_is p scripts w f x.step times x.choice in
    let rest = moves_run p scripts moves.0 end fs plan times (move_keeps p scripts f w moves.0 plan times keeps moves.1) moves.2 in
    let more : List Step = steps_of_moves p scripts moves.0 fs in
    let all : steps_of_moves p scripts w (f ∷ fs) ≡ x.step ∷ more = steps_next p scripts w moves.0 f fs x.step x.choice moves.1 in (
      subst (λ (steps : List Step). IsRun p w.state steps end.state) (sym all) (choice.lawful, subst (λ (v : Play). IsRun p v.state more end.state) x.is rest.0),
      ap (λ (steps : List Step). length steps) all ∙ ap suc rest.1,
    )
