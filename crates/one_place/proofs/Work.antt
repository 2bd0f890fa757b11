-- The work that scripted federates have left, which falls with each move.
use Rattle.std.proofs.Common.{◌≡◌, ◌<◌, ◌≤◌, ◌+◌, ◌∙◌, ℕ, zero, suc, true, false, List, [], ◌∷◌, length, Option, Some, None, refl, sym, subst, arith}
use Rattle.std.specs.Prelude.{slice_index_or, slice_set}
use Rattle.std.proofs.lemmas.Bool.{false≢true}
use Rattle.time_state.specs.declared.Phase.{Phase}
use Rattle.time_state.specs.declared.Phase.TheVariants.{Created, Initializing, Entering, Running, Waiting, Ended}
use Rattle.fed_script.specs.declared.action.Action.{Action}
use Rattle.fed_script.specs.declared.action.Action.TheVariants.{Publish, Send, Request, Finish, Fail}
use Rattle.hel_values.specs.declared.EndRef.{EndRef}
use Rattle.fed_script.specs.Laws.{letters_left}
use Rattle.fed_script.specs.Script.{IsInitial, next_action, words_after}
use Rattle.machine_laws.specs.declared.refusal.CallRefusal.{CallRefusal}
use Rattle.machine_laws.specs.declared.logs.LogEntry.{LogEntry}
use Rattle.machine_laws.specs.Plan.{Plan}
use Rattle.machine_laws.specs.Machine.{State, Member, blank_member, member_at, after, entered_member, called_member, requested_member, ended_member, failed_member}
use Rattle.machine_laws.specs.Moves.{step_by, or_failure, doing_refusal, call_by, is_calling}
use Rattle.machine_laws.specs.Refusal.{refusal_word}
use Rattle.one_place.specs.declared.actor.Actor.{Actor}
use Rattle.one_place.specs.Reference.{doing_of, call_of}
use Rattle.one_place.specs.Run.{IsActor, going, passed}
use Rattle.one_place.specs.Work.{weight, work, letters, is_answering}
use Rattle.one_place.proofs.Scripts.{words_fall, answer_sends, answer_leaves}

-- where one federate's work falls, all of it does
pub work_falls : (ms : List Member) (actors : List Actor) (f : ℕ) (n : Member) (b d : Actor) → length actors ≡ length ms → f < length ms →
    weight n.time.phase b < weight (slice_index_or ms f blank_member).time.phase (slice_index_or actors f d) → work (slice_set ms f n) (slice_set actors f b) < work ms actors
unfolding work
work_falls [] actors f n b d each known falls = absurd (omega arith)
work_falls (m ∷ ms) [] f n b d each known falls = absurd (omega arith)
work_falls (m ∷ ms) (a ∷ actors) zero n b d each known falls = omega (arith, falls)
work_falls (m ∷ ms) (a ∷ actors) (suc f) n b d each known falls = let less = work_falls ms actors f n b d (omega arith) (omega arith) falls in omega (arith, less)

-- and where it doesn't rise, all of it doesn't
pub work_stays : (ms : List Member) (actors : List Actor) (f : ℕ) (n : Member) (b d : Actor) → length actors ≡ length ms → f < length ms →
    weight n.time.phase b ≤ weight (slice_index_or ms f blank_member).time.phase (slice_index_or actors f d) → work (slice_set ms f n) (slice_set actors f b) ≤ work ms actors
unfolding work
work_stays [] actors f n b d each known stays = absurd (omega arith)
work_stays (m ∷ ms) [] f n b d each known stays = absurd (omega arith)
work_stays (m ∷ ms) (a ∷ actors) zero n b d each known stays = omega (arith, stays)
work_stays (m ∷ ms) (a ∷ actors) (suc f) n b d each known stays = let less = work_stays ms actors f n b d (omega arith) (omega arith) stays in omega (arith, less)

-- where one federate has a letter less, all have
pub letters_fall : (actors : List Actor) (f : ℕ) (b d : Actor) → f < length actors → letters_left b.view + 1 ≡ letters_left (slice_index_or actors f d).view →
    letters (slice_set actors f b) < letters actors
unfolding letters
letters_fall [] f b d known less = absurd (omega arith)
letters_fall (a ∷ actors) zero b d known less = omega (arith, less)
letters_fall (a ∷ actors) (suc f) b d known less = let rest = letters_fall actors f b d (omega arith) less in omega (arith, rest)

-- the call that answers a letter takes it
pub answered_letter : (q : Phase) (a : Actor) → is_answering q a ≡ true → letters_left (passed q a).view + 1 ≡ letters_left a.view
answered_letter Running a holds = (answer_leaves a.script.words a.view holds).1
answered_letter Created a holds = absurd (false≢true holds)
answered_letter Initializing a holds = absurd (false≢true holds)
answered_letter Entering a holds = absurd (false≢true holds)
answered_letter Waiting a holds = absurd (false≢true holds)
answered_letter (Ended cause) a holds = absurd (false≢true holds)

-- what the next call of a federate makes of its member
pub record Called (names : EndRef → List ℕ) (s : State) (f : ℕ) (a : Actor) (t : State) : Type 0 where
  pub member : Member
  pub members : t.members ≡ slice_set s.members f member
  pub log : member.log ≡ (member_at s f).log
  -- its work falls, unless it answers a letter
  pub falls : is_answering (member_at s f).time.phase a ≡ false → weight member.time.phase (passed (member_at s f).time.phase a) < weight (member_at s f).time.phase a
  pub stays : is_answering (member_at s f).time.phase a ≡ true → weight member.time.phase (passed (member_at s f).time.phase a) ≤ weight (member_at s f).time.phase a
  -- one that lives on does what it would have done after the call
  pub goes : (ended : (c : _) → member.time.phase ≡ Ended c → ⊥) → (more : List LogEntry) (k : ℕ) →
      going names (member_at s f).time.phase a more (suc k) ≡ going names member.time.phase (passed (member_at s f).time.phase a) more k

-- one that ends by it has no work left
ends : (names : EndRef → List ℕ) (s : State) (f : ℕ) (a : Actor) (t : State) (n : Member) (cause : _) → is_calling (member_at s f).time.phase ≡ true → n.time.phase ≡ Ended cause →
    n.log ≡ (member_at s f).log → t.members ≡ slice_set s.members f n → Called names s f a t
ends names s f a t n cause calling over log members =
    record {
      member = n;
      members = members;
      log = log;
      falls = λ idle. rw over (some (member_at s f).time.phase calling);
      stays = λ answering. rw over (omega arith);
      goes = λ lives. absurd (lives cause over);
    }
  where
    some : (q : Phase) → is_calling q ≡ true → 0 < weight q a
    some Initializing calls = omega arith
    some Running calls = omega arith
    some Created calls = absurd (false≢true calls)
    some Entering calls = absurd (false≢true calls)
    some Waiting calls = absurd (false≢true calls)
    some (Ended c) calls = absurd (false≢true calls)

-- the first call of what is left of the initial actions, or to enter
initially : (names : EndRef → List ℕ) (p : Plan) (s : State) (f : ℕ) (a : Actor) → IsActor a → (member_at s f).time.phase ≡ Initializing →
    Called names s f a (after p s (step_by f (call_of names a.script.initial a.script.words a.view [] zero)))
initially names p s f a is at = by_initial a.script.initial refl
  where
    idle : is_answering (member_at s f).time.phase a ≡ true → ⊥
    idle answering = let no = rw at at answering in false≢true no

    by_initial : (initial : List Action) → a.script.initial ≡ initial → Called names s f a (after p s (step_by f (call_of names initial a.script.words a.view [] zero)))
    by_initial [] none = record {
      member = entered_member (member_at s f);
      members = refl;
      log = refl;
      falls = λ idle. rw (at, none) (omega arith);
      stays = λ answering. absurd (idle answering);
      goes = λ lives more k. rw (at, none) refl;
    }
    by_initial (Publish publication value ∷ rest) some = record {
      member = called_member (member_at s f);
      members = refl;
      log = refl;
      falls = λ idle. rw (at, some) (omega arith);
      stays = λ answering. absurd (idle answering);
      goes = λ lives more k. rw (at, some) refl;
    }
    by_initial (Send endpoint destination payload ∷ rest) some = record {
      member = called_member (member_at s f);
      members = refl;
      log = refl;
      falls = λ idle. rw (at, some) (omega arith);
      stays = λ answering. absurd (idle answering);
      goes = λ lives more k. rw (at, some) refl;
    }
    by_initial (Request time mode ∷ rest) some = absurd (subst IsInitial some is.rules.initial)
    by_initial (Finish ∷ rest) some = absurd (subst IsInitial some is.rules.initial)
    by_initial (Fail text ∷ rest) some = absurd (subst IsInitial some is.rules.initial)

-- the next call of a federate that runs
running : (names : EndRef → List ℕ) (p : Plan) (s : State) (f : ℕ) (a : Actor) → IsActor a → (member_at s f).time.phase ≡ Running →
    Called names s f a (after p s (step_by f (doing_of (next_action a.script.words a.view))))
running names p s f a is at = by_action (next_action a.script.words a.view) refl
  where
    calls : is_calling (member_at s f).time.phase ≡ true
    calls = rw at refl

    -- fewer words are left where it answers no letter
    less : (action : Action) → next_action a.script.words a.view ≡ action → (action ≡ Finish → ⊥) → is_answering (member_at s f).time.phase a ≡ false →
        length (words_after a.script.words a.view) < length a.script.words
    less action next other idle = let no = rw at at idle in words_fall a.script.words a.view action no next other

    none : (action : Action) → next_action a.script.words a.view ≡ action → ((endpoint : ℕ) (to payload : List ℕ) → action ≡ Send endpoint to payload → ⊥) →
        is_answering (member_at s f).time.phase a ≡ true → ⊥
    none action next other answering =
        let holds = rw at at answering in
        let sent = answer_sends a.script.words a.view holds in
        other sent.0 sent.1 sent.2 (sym next ∙ sent.3)

    by_action : (action : Action) → next_action a.script.words a.view ≡ action → Called names s f a (after p s (step_by f (doing_of action)))
    by_action (Publish publication value) next = record {
      member = called_member (member_at s f);
      members = refl;
      log = refl;
      falls = λ idle. (let fewer = less (Publish publication value) next (λ same. cc) idle in rw at (omega (arith, fewer)));
      stays = λ answering. absurd (none (Publish publication value) next (λ e to payload same. cc) answering);
      goes = λ lives more k. rw (at, next) refl;
    }
    by_action (Send endpoint destination payload) next = record {
      member = called_member (member_at s f);
      members = refl;
      log = refl;
      falls = λ idle. (let fewer = less (Send endpoint destination payload) next (λ same. cc) idle in rw at (omega (arith, fewer)));
      stays = λ answering. (let holds = rw at at answering in let no_more = (answer_leaves a.script.words a.view holds).0 in rw at (omega (arith, no_more)));
      goes = λ lives more k. rw (at, next) refl;
    }
    by_action (Request time mode) next = record {
      member = requested_member (member_at s f) time mode;
      members = refl;
      log = refl;
      falls = λ idle. (let fewer = less (Request time mode) next (λ same. cc) idle in rw at (omega (arith, fewer)));
      stays = λ answering. absurd (none (Request time mode) next (λ e to payload same. cc) answering);
      goes = λ lives more k. rw (at, next) refl;
    }
    by_action Finish next = ends names s f a _ (ended_member (member_at s f) _) _ calls refl refl refl
    by_action (Fail text) next = ends names s f a _ (failed_member (member_at s f) text) _ calls refl refl refl

-- the next call of a federate, or the failure in its place
pub next_called : (names : EndRef → List ℕ) (p : Plan) (s : State) (f : ℕ) (a : Actor) → IsActor a → is_calling (member_at s f).time.phase ≡ true →
    Called names s f a (after p s (call_by p f (member_at s f) (going names (member_at s f).time.phase a [] zero)))
next_called names p s f a is calling = answered (doing_refusal p f (member_at s f) (going names (member_at s f).time.phase a [] zero))
  where
    by_phase : (q : Phase) → (member_at s f).time.phase ≡ q → Called names s f a (after p s (step_by f (going names q a [] zero)))
    by_phase Initializing at = initially names p s f a is at
    by_phase Running at = running names p s f a is at
    by_phase Created at = let no = rw at at calling in absurd (false≢true no)
    by_phase Entering at = let no = rw at at calling in absurd (false≢true no)
    by_phase Waiting at = let no = rw at at calling in absurd (false≢true no)
    by_phase (Ended cause) at = let no = rw at at calling in absurd (false≢true no)

    answered : (r : Option CallRefusal) → Called names s f a (after p s (or_failure f (step_by f (going names (member_at s f).time.phase a [] zero)) r))
    answered (Some refusal) = ends names s f a _ (failed_member (member_at s f) (refusal_word refusal)) _ calling refl refl refl
    answered None = by_phase (member_at s f).time.phase refl
