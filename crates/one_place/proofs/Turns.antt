-- Turns of the reference run as moves of scripted federates.
use Rattle.std.proofs.Common.{◌≡◌, ◌⊎◌, ◌<◌, ◌≤◌, ◌+◌, ℕ, zero, suc, Bool, true, false, List, [], ◌∷◌, ◌++◌, length, Option, Some, None, inl, inr, refl, sym, ◌∙◌, ap, subst, arith, append_assoc, length-set}
use Rattle.std.specs.Prelude.{slice_index_or, slice_set, option_map, is_none, ◌||◌, nat_lt, if◌then◌else◌}
use Rattle.std.proofs.lemmas.Bool.{cases_eq, cases_lt, false≢true, true≢false}
use Rattle.std.proofs.lemmas.List.{append-nil, get_or-set_same, get_or-set_other, set-get_or}
use Rattle.hel_lists.specs.Members.{Each}
use Rattle.time_state.specs.Fed.{is_asking, is_live}
use Rattle.time_state.specs.declared.Phase.{Phase}
use Rattle.time_state.specs.declared.Phase.TheVariants.{Created, Initializing, Entering, Running, Waiting, Ended}
use Rattle.hel_values.specs.declared.EndRef.{EndRef}
use Rattle.fed_script.specs.View.{Sight}
use Rattle.machine_laws.specs.declared.refusal.CallRefusal.{CallRefusal}
use Rattle.machine_laws.specs.declared.refusal.Unlawful.{Unlawful}
use Rattle.machine_laws.specs.declared.refusal.Unlawful.TheVariants.{NotAsked, StrangeNumber}
use Rattle.machine_laws.specs.Plan.{Plan}
use Rattle.machine_laws.specs.Machine.{State, Member, Step, blank_member, member_at, cut_in, holder_in, dues_to, handed_in, granted_member, refusal_of, after}
use Rattle.machine_laws.specs.Machine.Step.{grant}
use Rattle.machine_laws.specs.Moves.{Doing, Scripts, Play, step_by, or_failure, doing_refusal, call_by, calls_of, in_turn, if_lawful, is_call, moved, move, IsReference, is_calling}
use Rattle.machine_laws.specs.Moves.Doing.{enters, makes, requests, finishes, fails}
use Rattle.one_place.specs.declared.actor.Actor.{Actor}
use Rattle.federation_plan.specs.Plan.{Federation}
use Rattle.federation_plan.specs.Wires.{wires_of}
use Rattle.one_place.specs.Machine.{Stage}
use Rattle.one_place.specs.Reference.{Way, names_in, taken_over}
use Rattle.one_place.specs.Run.{wires_at, names_at, play_of, may_move, going, passed, calling_step, entry_in, step_at, actor_after, IsActor, AreActors, Goes, actor_at, AreFollowing, IsNextToMove, Played, Leads}
use Rattle.one_place.specs.Work.{weight, work, letters, is_answering}
use Rattle.one_place.proofs.Held.{each_at}
use Rattle.one_place.proofs.Scripts.{strange_stays, initial_passed, words_passed}
use Rattle.machine_laws.proofs.Moves.{phase_calls, phase_asks, calling_known}
use Rattle.one_place.proofs.Seating.{asking_lives}
use Rattle.one_place.proofs.Work.{Called, work_falls, work_stays, letters_fall, answered_letter, next_called}

-- a call or a failure counts as a call
counts : (p : Plan) (f : ℕ) (m : Member) (doing : Doing) → is_call (call_by p f m doing) ≡ true
counts p f m doing = answered doing (doing_refusal p f m doing)
  where
    answered : (d : Doing) (r : Option CallRefusal) → is_call (or_failure f (step_by f d) r) ≡ true
    answered d (Some refusal) = refl
    answered enters None = refl
    answered (makes call) None = refl
    answered (requests time mode) None = refl
    answered finishes None = refl
    answered (fails text) None = refl

-- which phases call, wait or live
calling_lives : (q : Phase) → is_calling q ≡ true → is_live q ≡ true
calling_lives Created calling = refl
calling_lives Initializing calling = refl
calling_lives Entering calling = refl
calling_lives Running calling = refl
calling_lives Waiting calling = refl
calling_lives (Ended cause) calling = absurd (false≢true calling)

asking_calls_not : (q : Phase) → is_asking q ≡ true → is_calling q ≡ false
asking_calls_not Created asking = absurd (false≢true asking)
asking_calls_not Initializing asking = absurd (false≢true asking)
asking_calls_not Entering asking = refl
asking_calls_not Running asking = absurd (false≢true asking)
asking_calls_not Waiting asking = refl
asking_calls_not (Ended cause) asking = absurd (false≢true asking)

live_not_ended : (q : Phase) → is_live q ≡ true → (c : _) → q ≡ Ended c → ⊥
live_not_ended q lives c ended = let no = rw ended at lives in false≢true no

-- what a federate does now
doing_now : (names : EndRef → List ℕ) (plays : Scripts) (f : ℕ) (m : Member) (calls : ℕ) (a : Actor) → Goes names plays f m calls a → is_live m.time.phase ≡ true →
    plays f calls m.log ≡ going names m.time.phase a [] zero
doing_now names plays f m calls a go lives =
    let at : calls + 0 ≡ calls = omega arith in
    sym (ap (λ k. plays f k (m.log ++ [])) at ∙ ap (plays f calls) (append-nil m.log)) ∙ go lives [] zero

-- a federate that calls moves by its next call
call_moves : (s : Stage) (plays : Scripts) (calls : List ℕ) (f : ℕ) (a : Actor) → Goes (names_at s) plays f (member_at s.state f) (slice_index_or calls f 0) a →
    is_calling (member_at s.state f).time.phase ≡ true →
    move (wires_at s) plays f (play_of s calls)
    ≡ Some (record { state = after (wires_at s) s.state (calling_step s f a); calls = slice_set calls f (slice_index_or calls f 0 + 1) })
call_moves s plays cs f a go calling =
    let p : Plan = wires_at s in
    let w : Play = play_of s cs in
    let m : Member = member_at s.state f in
    let doing : Doing = going (names_at s) m.time.phase a [] zero in
    let grants : Option Step = if_lawful (refusal_of p s.state (grant f)) (grant f) in
    let t : State = after p s.state (call_by p f m doing) in
    ap (λ (d : Doing). option_map (moved p w f) (in_turn m.time.phase (Some (call_by p f m d)) grants))
    (doing_now (names_at s) plays f m (slice_index_or cs f 0) a go (calling_lives m.time.phase calling))
    ∙ ap (λ (step : Option Step). option_map (moved p w f) step) (phase_calls m.time.phase (Some (call_by p f m doing)) grants calling)
    ∙ ap (λ (b : Bool). let next : Play = record { state = t; calls = if b then slice_set cs f (calls_of w f + 1) else cs } in Some next) (counts p f m doing)

-- a federate that waits moves by its grant, where that is lawful
grant_moves : (s : Stage) (plays : Scripts) (calls : List ℕ) (f : ℕ) → is_asking (member_at s.state f).time.phase ≡ true → refusal_of (wires_at s) s.state (grant f) ≡ None →
    move (wires_at s) plays f (play_of s calls) ≡ Some (record { state = after (wires_at s) s.state (grant f); calls = calls })
grant_moves s plays cs f asking lawful =
    let p : Plan = wires_at s in
    let w : Play = play_of s cs in
    let m : Member = member_at s.state f in
    let call : Step = call_by p f m (plays f (slice_index_or cs f 0) m.log) in
    ap (λ (step : Option Step). option_map (moved p w f) step)
    (phase_asks m.time.phase (Some call) (if_lawful (refusal_of p s.state (grant f)) (grant f)) asking ∙ ap (λ (r : Option Unlawful). if_lawful r (grant f)) lawful)

-- a federate that may not act doesn't move
pub stays : (s : Stage) (plays : Scripts) (calls : List ℕ) (f : ℕ) → may_move s f ≡ false → move (wires_at s) plays f (play_of s calls) ≡ None
stays s plays cs f not = by_phase (member_at s.state f).time.phase refl
  where
    p : Plan
    p = wires_at s

    ungranted : (calls grants : Bool) → (calls || grants) ≡ false → grants ≡ false
    ungranted true grants none = absurd (true≢false none)
    ungranted false grants none = none

    some : is_none (refusal_of p s.state (grant f)) ≡ false
    some = ungranted (is_calling (member_at s.state f).time.phase) _ not

    refused : (r : Option Unlawful) (step : Step) → is_none r ≡ false → if_lawful r step ≡ None
    refused None step some = absurd (true≢false some)
    refused (Some e) step some = refl

    idle : (q : Phase) → (member_at s.state f).time.phase ≡ q → in_turn q (Some (call_by p f (member_at s.state f) (plays f (slice_index_or cs f 0) (member_at s.state f).log))) (if_lawful (refusal_of p s.state (grant f)) (grant f)) ≡ None → move p plays f (play_of s cs) ≡ None
    idle q is none =
        let call : Step = call_by p f (member_at s.state f) (plays f (slice_index_or cs f 0) (member_at s.state f).log) in
        let grants : Option Step = if_lawful (refusal_of p s.state (grant f)) (grant f) in
        ap (λ (r : Phase). option_map (moved p (play_of s cs) f) (in_turn r (Some call) grants)) is ∙ ap (λ (step : Option Step). option_map (moved p (play_of s cs) f) step) none

    by_phase : (q : Phase) → (member_at s.state f).time.phase ≡ q → move p plays f (play_of s cs) ≡ None
    by_phase Created is = idle Created is refl
    by_phase (Ended cause) is = idle (Ended cause) is refl
    by_phase Initializing is = let moves = rw is at not in absurd (true≢false moves)
    by_phase Running is = let moves = rw is at not in absurd (true≢false moves)
    by_phase Entering is = idle Entering is (refused _ _ some)
    by_phase Waiting is = idle Waiting is (refused _ _ some)

none_of : (r : Option Unlawful) → is_none r ≡ true → r ≡ None
none_of None none = refl
none_of (Some e) none = absurd (false≢true none)

-- a federate that may act is one of the machine's
pub moving_known : (s : Stage) (f : ℕ) → may_move s f ≡ true → f < length s.state.members
moving_known s f may = elim (cases_lt f (length s.state.members)) [
  | inl within ↦ within
  | inr over ↦ absurd (false≢true (sym (strange_stays s f over) ∙ may))
]

-- one that may act calls, or waits for a grant that is lawful
pub record MayTurn (s : Stage) (f : ℕ) : Type 0 where
  pub asks : is_asking (member_at s.state f).time.phase ≡ true
  pub lawful : refusal_of (wires_at s) s.state (grant f) ≡ None

pub calls_or_asks : (s : Stage) (f : ℕ) → may_move s f ≡ true → (is_calling (member_at s.state f).time.phase ≡ true) ⊎ MayTurn s f
calls_or_asks s f may = either (is_calling (member_at s.state f).time.phase) (is_none (refusal_of (wires_at s) s.state (grant f))) refl refl may
  where
    asking : (known asks : Bool) (held : Option Unlawful) → (if known then (if asks then held else Some NotAsked) else Some StrangeNumber) ≡ None → asks ≡ true
    asking true true held none = refl
    asking true false held none = cc
    asking false asks held none = cc

    either : (calls grants : Bool) → is_calling (member_at s.state f).time.phase ≡ calls → is_none (refusal_of (wires_at s) s.state (grant f)) ≡ grants → (calls || grants) ≡ true →
        (is_calling (member_at s.state f).time.phase ≡ true) ⊎ MayTurn s f
    either true grants calls lawful holds = inl calls
    either false true calls lawful holds =
        let none : refusal_of (wires_at s) s.state (grant f) ≡ None = none_of _ lawful in
        inr (record { asks = asking (nat_lt f (length s.state.members)) (is_asking (member_at s.state f).time.phase) (holder_in (wires_at s) s.state (cut_in s.state f) ((wires_at s).ancestors f)) none; lawful = none })
    either false false calls lawful holds = absurd (false≢true holds)

-- an actor keeps its facts as it goes on
passed_actor : (q : Phase) (a : Actor) → IsActor a → IsActor (passed q a)
passed_actor Running a is = record { rules = words_passed a.script a.view is.rules }
passed_actor Created a is = record { rules = initial_passed a.script is.rules }
passed_actor Initializing a is = record { rules = initial_passed a.script is.rules }
passed_actor Entering a is = record { rules = initial_passed a.script is.rules }
passed_actor Waiting a is = record { rules = initial_passed a.script is.rules }
passed_actor (Ended cause) a is = record { rules = initial_passed a.script is.rules }

each_set : {A : Type 0} (P : A → Type 0) (xs : List A) (i : ℕ) (y : A) → Each P xs → P y → Each P (slice_set xs i y)
each_set P [] i y each new x among = absurd among
each_set P (z ∷ xs) zero y each new x among = elim among [ inl here ↦ subst P (sym here) new | inr later ↦ each x (inr later) ]
each_set P (z ∷ xs) (suc i) y each new x among = elim among [
  | inl here ↦ subst P (sym here) (each z (inl refl))
  | inr later ↦ each_set P xs i y (λ w is. each w (inr is)) new x later
]

-- the actors after one turn
actors_set : (s t : State) (actors : List Actor) (f : ℕ) (n : Member) (b : Actor) → AreActors s actors → t.members ≡ slice_set s.members f n → IsActor b → AreActors t (slice_set actors f b)
actors_set s t actors f n b ready members is =
    let many : length t.members ≡ length s.members = ap length members ∙ length-set s.members f n in
    record { each = length-set actors f b ∙ ready.each ∙ sym many; all = each_set IsActor actors f b ready.all is }

-- what another federate does stays
following_set : (plays : Scripts) (s t : Stage) (calls : List ℕ) (actors : List Actor) (f : ℕ) (n : Member) (c : ℕ) (b : Actor) → AreFollowing plays s calls actors → t.plan ≡ s.plan →
    length actors ≡ length s.state.members → f < length s.state.members → t.state.members ≡ slice_set s.state.members f n → Goes (names_at s) plays f n c b →
    AreFollowing plays t (slice_set calls f c) (slice_set actors f b)
following_set plays s t cs actors f n c b follows plan each known members own =
    let many : length t.state.members ≡ length s.state.members = ap length members ∙ length-set s.state.members f n in
    let counted : length cs ≡ length s.state.members = follows.counts in
    let names : names_at t ≡ names_at s = ap names_in plan in
    record {
      counts = length-set cs f c ∙ counted ∙ sym many;
      go = λ g within. elim (cases_eq g f) [
        | inl same ↦
            let member : member_at t.state g ≡ n = (λ i. slice_index_or (members i) (same i) blank_member) ∙ get_or-set_same s.state.members f n blank_member known in
            let count : slice_index_or (slice_set cs f c) g 0 ≡ c = ap (λ k. slice_index_or (slice_set cs f c) k 0) same ∙ get_or-set_same cs f c 0 (omega (arith, known, counted)) in
            let actor : actor_at (slice_set actors f b) g ≡ b = ap (actor_at (slice_set actors f b)) same ∙ get_or-set_same actors f b _ (omega (arith, known, each)) in
            subst (λ (ns : EndRef → List ℕ). Goes ns plays g (member_at t.state g) (slice_index_or (slice_set cs f c) g 0) (actor_at (slice_set actors f b) g)) (sym names)
            (subst (λ k. Goes (names_at s) plays k (member_at t.state g) (slice_index_or (slice_set cs f c) g 0) (actor_at (slice_set actors f b) g)) (sym same)
            (subst (λ (m : Member). Goes (names_at s) plays f m (slice_index_or (slice_set cs f c) g 0) (actor_at (slice_set actors f b) g)) (sym member)
            (subst (λ k. Goes (names_at s) plays f n k (actor_at (slice_set actors f b) g)) (sym count) (subst (λ (x : Actor). Goes (names_at s) plays f n c x) (sym actor) own))))
        | inr other ↦
            let member : member_at t.state g ≡ member_at s.state g = ap (λ (ms : List Member). slice_index_or ms g blank_member) members ∙ get_or-set_other s.state.members f g n blank_member other in
            let count : slice_index_or (slice_set cs f c) g 0 ≡ slice_index_or cs g 0 = get_or-set_other cs f g c 0 other in
            let actor : actor_at (slice_set actors f b) g ≡ actor_at actors g = get_or-set_other actors f g b _ other in
            subst (λ (ns : EndRef → List ℕ). Goes ns plays g (member_at t.state g) (slice_index_or (slice_set cs f c) g 0) (actor_at (slice_set actors f b) g)) (sym names)
            (subst (λ (m : Member). Goes (names_at s) plays g m (slice_index_or (slice_set cs f c) g 0) (actor_at (slice_set actors f b) g)) (sym member)
            (subst (λ k. Goes (names_at s) plays g (member_at s.state g) k (actor_at (slice_set actors f b) g)) (sym count)
            (subst (λ (x : Actor). Goes (names_at s) plays g (member_at s.state g) (slice_index_or cs g 0) x) (sym actor) (follows.go g (omega (arith, within, many))))))
      ];
    }

-- what a federate does after a call
goes_called : (names : EndRef → List ℕ) (plays : Scripts) (s t : State) (f c : ℕ) (a : Actor) (called : Called names s f a t) → Goes names plays f (member_at s f) c a →
    is_calling (member_at s f).time.phase ≡ true → Goes names plays f called.member (c + 1) (passed (member_at s f).time.phase a)
goes_called names plays s t f c a called go calling lives more k =
    let at : c + 1 + k ≡ c + suc k = omega arith in
    (λ i. plays f (at i) (called.log i ++ more)) ∙ go (calling_lives (member_at s f).time.phase calling) more (suc k)
    ∙ called.goes (live_not_ended called.member.time.phase lives) more k

-- and after a grant
goes_granted : (names : EndRef → List ℕ) (plays : Scripts) (s : State) (f c : ℕ) (a : Actor) → Goes names plays f (member_at s f) c a → is_asking (member_at s f).time.phase ≡ true →
    Goes names plays f (granted_member (member_at s f) (dues_to s.items f) (handed_in s f)) c (record a { view = taken_over names a.view (entry_in s f) })
goes_granted names plays s f c a go asking lives more k =
    let m : Member = member_at s f in
    ap (plays f (c + k)) (append_assoc m.log (entry_in s f ∷ []) more) ∙ go (asking_lives m.time.phase asking) (entry_in s f ∷ more) k ∙ waited m.time.phase asking
  where
    waited : (q : Phase) → is_asking q ≡ true → going names q a (entry_in s f ∷ more) k ≡ going names Running (record a { view = taken_over names a.view (entry_in s f) }) more k
    waited Entering asks = refl
    waited Waiting asks = refl
    waited Created asks = absurd (false≢true asks)
    waited Initializing asks = absurd (false≢true asks)
    waited Running asks = absurd (false≢true asks)
    waited (Ended cause) asks = absurd (false≢true asks)

waiting_weight : (q : Phase) (a : Actor) (v : Sight) → is_asking q ≡ true → weight Running (record a { view = v }) < weight q a
waiting_weight Entering a v asks = omega arith
waiting_weight Waiting a v asks = omega arith
waiting_weight Created a v asks = absurd (false≢true asks)
waiting_weight Initializing a v asks = absurd (false≢true asks)
waiting_weight Running a v asks = absurd (false≢true asks)
waiting_weight (Ended cause) a v asks = absurd (false≢true asks)

-- one that waits answers no letter
asks_no_answer : (q : Phase) (a : Actor) → is_asking q ≡ true → is_answering q a ≡ true → ⊥
asks_no_answer Running a asks holds = false≢true asks
asks_no_answer Created a asks holds = false≢true holds
asks_no_answer Initializing a asks holds = false≢true holds
asks_no_answer Entering a asks holds = false≢true holds
asks_no_answer Waiting a asks holds = false≢true holds
asks_no_answer (Ended cause) a asks holds = false≢true holds

-- what one turn leaves: as many actors as members, less work or a letter less, and a move of the scripts that they follow
pub record IsTurned (s : Stage) (f : ℕ) (actors : List Actor) (t : Stage) (rest : List Actor) : Type 0 where
  pub ready : AreActors t.state rest
  pub falls : is_answering (member_at s.state f).time.phase (actor_at actors f) ≡ false → work t.state.members rest < work s.state.members actors
  pub stays : is_answering (member_at s.state f).time.phase (actor_at actors f) ≡ true → (work t.state.members rest ≤ work s.state.members actors) × (letters rest < letters actors)
  pub moves : (plays : Scripts) (calls : List ℕ) → AreFollowing plays s calls actors →
      (next : List ℕ) × (move (wires_at s) plays f (play_of s calls) ≡ Some (play_of t next)) × AreFollowing plays t next rest

called_turn : (s : Stage) (f : ℕ) (actors : List Actor) → AreActors s.state actors → is_calling (member_at s.state f).time.phase ≡ true →
    IsTurned s f actors (record s { state = after (wires_at s) s.state (calling_step s f (actor_at actors f)) }) (slice_set actors f (passed (member_at s.state f).time.phase (actor_at actors f)))
called_turn s f actors ready calling =
    let a : Actor = actor_at actors f in
    let q : Phase = (member_at s.state f).time.phase in
    let known = calling_known s.state f calling in
    let each : length actors ≡ length s.state.members = ready.each in
    let is : IsActor a = each_at IsActor actors f _ ready.all (omega (arith, known, each)) in
    let t : State = after (wires_at s) s.state (calling_step s f a) in
    let called = next_called (names_at s) (wires_at s) s.state f a is calling in
    record {
      ready = actors_set s.state t actors f called.member (passed q a) ready called.members (passed_actor q a is);
      falls = λ idle.
          subst (λ (ms : List Member). work ms (slice_set actors f (passed q a)) < work s.state.members actors) (sym called.members)
          (work_falls s.state.members actors f called.member (passed q a) _ each known (called.falls idle));
      stays = λ answering. (
        subst (λ (ms : List Member). work ms (slice_set actors f (passed q a)) ≤ work s.state.members actors) (sym called.members)
            (work_stays s.state.members actors f called.member (passed q a) _ each known (called.stays answering)),
        letters_fall actors f (passed q a) _ (omega (arith, known, each)) (answered_letter q a answering),
      );
      moves = λ plays cs follows.
          (let go = follows.go f known in
          let own = goes_called (names_at s) plays s.state t f (slice_index_or cs f 0) a called go calling in (
            slice_set cs f (slice_index_or cs f 0 + 1),
            call_moves s plays cs f a go calling,
            following_set plays s (record s { state = t }) cs actors f called.member (slice_index_or cs f 0 + 1) (passed q a) follows refl each known called.members own,
          ));
    }

granted_turn : (s : Stage) (f : ℕ) (actors : List Actor) → AreActors s.state actors → MayTurn s f → f < length s.state.members →
    IsTurned s f actors (record s { state = after (wires_at s) s.state (grant f) })
    (slice_set actors f (record (actor_at actors f) { view = taken_over (names_at s) (actor_at actors f).view (entry_in s.state f) }))
granted_turn s f actors ready may known =
    let a : Actor = actor_at actors f in
    let m : Member = member_at s.state f in
    let b : Actor = record a { view = taken_over (names_at s) a.view (entry_in s.state f) } in
    let n : Member = granted_member m (dues_to s.state.items f) (handed_in s.state f) in
    let each : length actors ≡ length s.state.members = ready.each in
    let is : IsActor a = each_at IsActor actors f _ ready.all (omega (arith, known, each)) in
    let t : State = after (wires_at s) s.state (grant f) in
    record {
      ready = actors_set s.state t actors f n b ready refl (record { rules = is.rules });
      falls = λ idle. work_falls s.state.members actors f n b _ each known (waiting_weight m.time.phase a b.view may.asks);
      stays = λ answering. absurd (asks_no_answer m.time.phase a may.asks answering);
      moves = λ plays cs follows.
          (let own = goes_granted (names_at s) plays s.state f (slice_index_or cs f 0) a (follows.go f known) may.asks in (
            cs,
            grant_moves s plays cs f may.asks may.lawful,
            subst (λ (xs : List ℕ). AreFollowing plays (record s { state = t }) xs (slice_set actors f b)) (set-get_or cs f 0)
                (following_set plays s (record s { state = t }) cs actors f n (slice_index_or cs f 0) b follows refl each known refl own),
          ));
    }

-- a turn of a federate that may act
pub turned : (s t : Stage) (f : ℕ) (actors rest : List Actor) → AreActors s.state actors → may_move s f ≡ true →
    t ≡ record s { state = after (wires_at s) s.state (step_at s f (actor_at actors f)) } → rest ≡ slice_set actors f (actor_after s f (actor_at actors f)) → IsTurned s f actors t rest
turned s t f actors rest ready may is left = elim (calls_or_asks s f may) [
  | inl calling ↦
      let a : Actor = actor_at actors f in
      let step : step_at s f a ≡ calling_step s f a = ap (λ (b : Bool). if b then calling_step s f a else grant f) calling in
      let actor : actor_after s f a ≡ passed (member_at s.state f).time.phase a =
      ap (λ (c : Bool). if c then passed (member_at s.state f).time.phase a else (record a { view = taken_over (names_at s) a.view (entry_in s.state f) })) calling in
      subst (λ (x : Stage). IsTurned s f actors x rest) (sym (is ∙ ap (λ (st : Step). record s { state = after (wires_at s) s.state st }) step))
      (subst (λ (xs : List Actor). IsTurned s f actors (record s { state = after (wires_at s) s.state (calling_step s f a) }) xs) (sym (left ∙ ap (slice_set actors f) actor))
      (called_turn s f actors ready calling))
  | inr asks ↦
      let a : Actor = actor_at actors f in
      let not = asking_calls_not (member_at s.state f).time.phase asks.asks in
      let b : Actor = record a { view = taken_over (names_at s) a.view (entry_in s.state f) } in
      let step : step_at s f a ≡ grant f = ap (λ (c : Bool). if c then calling_step s f a else grant f) not in
      let actor : actor_after s f a ≡ b = ap (λ (c : Bool). if c then passed (member_at s.state f).time.phase a else b) not in
      subst (λ (x : Stage). IsTurned s f actors x rest) (sym (is ∙ ap (λ (st : Step). record s { state = after (wires_at s) s.state st }) step))
      (subst (λ (xs : List Actor). IsTurned s f actors (record s { state = after (wires_at s) s.state (grant f) }) xs) (sym (left ∙ ap (slice_set actors f) actor))
      (granted_turn s f actors ready asks (moving_known s f may)))
]

-- a move of the next to move, and then the rest
pub first_move : (s t : Stage) (plays : Scripts) (calls next : List ℕ) (f : ℕ) (end : Play) → IsNextToMove s f → move (wires_at s) plays f (play_of s calls) ≡ Some (play_of t next) →
    t.plan ≡ s.plan → Played IsReference (wires_at t) plays (play_of t next) end → Played IsReference (wires_at s) plays (play_of s calls) end
first_move s t plays cs ds f end next moves same rest =
    let more : Played IsReference (wires_at s) plays (play_of t ds) end = subst (λ (plan : Federation). Played IsReference (wires_of plan) plays (play_of t ds) end) same rest in
    (f ∷ more.0, (play_of t ds, moves, (λ g less. stays s plays cs g (next.least g less)), more.1))

-- nobody moves any more
pub no_move : (s : Stage) (plays : Scripts) (calls : List ℕ) → ((f : ℕ) → may_move s f ≡ false) → Played IsReference (wires_at s) plays (play_of s calls) (play_of s calls)
no_move s plays cs none = ([], (refl, λ f. stays s plays cs f (none f)))

-- ---- how runs go on

pub leads_there : (way : Way) (s : Stage) (actors : List Actor) → AreActors s.state actors → Leads way way s actors s actors
leads_there way s actors ready = record { plan = refl; ready = ready; more = λ plays cs follows. (cs, follows, (λ end out. out)) }

pub leads_through : (a b c : Way) (s t u : Stage) (actors there rest : List Actor) → Leads a b s actors t there → Leads b c t there u rest → Leads a c s actors u rest
leads_through a b c s t u actors there rest first then_on =
    record {
      plan = then_on.plan ∙ first.plan;
      ready = then_on.ready;
      more = λ plays cs follows.
          (let now = first.more plays cs follows in
          let later = then_on.more plays now.0 now.1 in
          (later.0, later.1, (λ end out. now.2 end (later.2 end out))));
    }

-- the reference run by turns of the next to move
pub goes_further : (s t u : Stage) (f : ℕ) (actors there rest : List Actor) → Leads IsReference IsReference s actors t there → IsNextToMove t f → u.plan ≡ t.plan → IsTurned t f there u rest → Leads IsReference IsReference s actors u rest
goes_further s t u f actors there rest on next plan turn =
    record {
      plan = plan ∙ on.plan;
      ready = turn.ready;
      more = λ plays cs follows.
          (let now = on.more plays cs follows in
          let moved = turn.moves plays now.0 now.1 in
          (moved.0, moved.2, (λ end out. now.2 end (first_move t u plays now.0 moved.0 f end next moved.1 plan out))));
    }
