-- Calls of scripts, and who may act.
use Rattle.std.proofs.Common.{◌≡◌, ◌<◌, ◌≤◌, ◌+◌, ℕ, zero, sym, Bool, true, false, List, [], ◌∷◌, length, Option, Some, None, refl, ap, ◌∙◌, arith, inl, inr, subst}
use Rattle.std.specs.Prelude.{nat_lt, if◌then◌else◌, ◌||◌, option_map, is_some, is_none, unwrap_or, slice_get, drop, Result, Ok, Err}
use Rattle.std.specs.Result.{IfOk}
use Rattle.std.proofs.lemmas.Bool.{cases_Bool, false≢true, true≢false}
use Rattle.std.proofs.lemmas.Bool.Decides.{nat_tests}
use Rattle.std.proofs.lemmas.List.{get_or_past}
use Rattle.hel_values.specs.Limits.{data_limit}
use Rattle.hel_values.specs.declared.EndRef.{EndRef}
use Rattle.fed_script.specs.declared.action.Action.{Action}
use Rattle.fed_script.specs.declared.action.Action.TheVariants.{Publish as Publishes, Send as Sends, Request as Requests, Finish as Finishes, Fail as Fails}
use Rattle.fed_script.specs.declared.word.Word.{Word}
use Rattle.fed_script.specs.declared.word.Word.TheVariants.{Publish, PublishSum, Send, Echo, Request, Advance, Iterate, Finish, Fail}
use Rattle.endpoint_messages.specs.declared.Letter.{Letter}
use Rattle.fed_script.specs.View.{Sight, letters_at}
use Rattle.fed_script.specs.Script.{Course, IsInitial, IsCourse, HasTime, gives, echo_of, given_from, first_action, next_action, behind, behind_first, is_echo, echo_first, answers, words_after, seen_after, view_after}
use Rattle.fed_script.specs.Laws.{letters_left}
use Rattle.fed_script.proofs.Passing.{keep_times_after, is_initial_after}
use Rattle.fed_script.proofs.Turns.{progresses}
use Rattle.machine_laws.specs.declared.refusal.CallRefusal.{CallRefusal}
use Rattle.machine_laws.specs.declared.refusal.CallRefusal.TheVariants.{Ended, WrongPhase, NotOwner, KindMismatch, UnknownEndpoint, NotATarget, PastHorizon, MicroLimit, CountLimit, OutOfMemory}
use Rattle.machine_laws.specs.declared.refusal.Unlawful.TheVariants.{Refused, StrangeNumber}
use Rattle.machine_laws.specs.declared.refusal.Unlawful.{Unlawful}
use Rattle.machine_laws.specs.Plan.{Plan}
use Rattle.machine_laws.specs.Refusal.{refusal_word}
use Rattle.machine_laws.specs.Machine.{State, blank_member, member_at, grant_refusal, refusal_of}
use Rattle.machine_laws.specs.Machine.Step.{fail, grant}
use Rattle.machine_laws.specs.Moves.{Doing, step_by, doing_refusal, is_calling}
use Rattle.machine_laws.specs.Moves.Doing.{enters, makes, requests, finishes, fails}
use Rattle.time_state.specs.declared.Phase.{Phase}
use Rattle.time_state.specs.declared.Phase.TheVariants.{Created, Initializing, Entering, Running, Waiting, Ended as PhaseEnded}
use Rattle.one_place.specs.Reference.{doing_of, call_of}
use Rattle.one_place.specs.Machine.{Stage}
use Rattle.machine_laws.proofs.Moves.{calling_known, calling_lives}
use Rattle.one_place.specs.Run.{wires_at, may_move}

-- the name of a refusal is short enough for a text value
pub word_is_short : (r : CallRefusal) → length (refusal_word r) ≤ data_limit
word_is_short (Ended cause) = omega arith
word_is_short (WrongPhase phase) = omega arith
word_is_short NotOwner = omega arith
word_is_short KindMismatch = omega arith
word_is_short UnknownEndpoint = omega arith
word_is_short NotATarget = omega arith
word_is_short PastHorizon = omega arith
word_is_short MicroLimit = omega arith
word_is_short CountLimit = omega arith
word_is_short OutOfMemory = omega arith

-- a number that no federate has doesn't act
pub strange_stays : (s : Stage) (f : ℕ) → length s.state.members ≤ f → may_move s f ≡ false
strange_stays s f over =
    let calls : is_calling (member_at s.state f).time.phase ≡ false = rw (get_or_past s.state.members f blank_member over) refl in
    let none : nat_lt f (length s.state.members) ≡ false = grind (arith, nat_tests) in
    let refused : refusal_of (wires_at s) s.state (grant f) ≡ Some StrangeNumber = ap (λ (known : Bool). if known then grant_refusal (wires_at s) s.state f else Some StrangeNumber) none in
    (λ i. calls i || is_none (refused i))

-- a call of a federate of the machine is refused as the script's definition has it
pub call_refused : (p : Plan) (s : State) (f : ℕ) (doing : Doing) → f < length s.members →
    refusal_of p s (step_by f doing) ≡ option_map Refused (doing_refusal p f (member_at s f) doing)
call_refused p s f doing within = each doing
  where
    known : (r : Option Unlawful) → (if nat_lt f (length s.members) then r else Some StrangeNumber) ≡ r
    known r = grind (arith, nat_tests)

    each : (d : Doing) → refusal_of p s (step_by f d) ≡ option_map Refused (doing_refusal p f (member_at s f) d)
    each enters = known _
    each (makes call) = known _
    each (requests time mode) = known _
    each finishes = known _
    each (fails text) = known _

-- so it is refused as a call
pub refused_as_call : (r : Option CallRefusal) (e : Unlawful) → Some e ≡ option_map Refused r → ((x : CallRefusal) → e ≡ Refused x → ⊥) → ⊥
refused_as_call None e is other = cc
refused_as_call (Some x) e is other = other x (cc)

-- a refused call's refusal
pub refused_with : (r : Option CallRefusal) (e : CallRefusal) → option_map Refused r ≡ Some (Refused e) → r ≡ Some e
refused_with None e is = cc
refused_with (Some x) e is = cc

-- a federate that calls may fail
pub may_fail : (p : Plan) (s : State) (f : ℕ) (text : List ℕ) → is_calling (member_at s f).time.phase ≡ true → refusal_of p s (fail f text) ≡ None
may_fail p s f text calling =
    let known = calling_known s f calling in
    call_refused p s f (fails text) known ∙ ap (option_map Refused) (calling_lives (member_at s f).time.phase calling)

-- what holds of a value that comes holds where it implies another fact
pub if_ok_then : {T E : Type 0} (r : Result T E) (P Q : T → Type 0) → ((t : T) → P t → Q t) → IfOk r P → IfOk r Q
if_ok_then (Ok t) P Q then_holds holds = then_holds t holds
if_ok_then (Err e) P Q then_holds holds = tt

-- a federate that calls and doesn't run is Initializing
pub initializing : (q : Phase) → is_calling q ≡ true → (q ≡ Running → ⊥) → q ≡ Initializing
initializing Initializing calls other = refl
initializing Running calls other = absurd (other refl)
initializing Created calls other = absurd (false≢true calls)
initializing Entering calls other = absurd (false≢true calls)
initializing Waiting calls other = absurd (false≢true calls)
initializing (PhaseEnded cause) calls other = absurd (false≢true calls)

-- its first call is the first initial action that is left, or to enter
pub first_call : (names : EndRef → List ℕ) (initial : List Action) (words : List Word) (v : Sight) (action : Action) → slice_get initial 0 ≡ Some action →
    call_of names initial words v [] zero ≡ doing_of action
first_call names [] words v action is = cc
first_call names (x ∷ initial) words v action is = let same : x ≡ action = cc in ap doing_of same

pub entering_call : (names : EndRef → List ℕ) (initial : List Action) (words : List Word) (v : Sight) → slice_get initial 0 ≡ None → call_of names initial words v [] zero ≡ enters
entering_call names [] words v is = refl
entering_call names (x ∷ initial) words v is = cc

-- an initial action asks for no time
pub initial_time : (initial : List Action) (action : Action) → IsInitial initial → slice_get initial 0 ≡ Some action → HasTime action
initial_time [] action is at = cc
initial_time (Publishes publication value ∷ more) action is at = let same : Publishes publication value ≡ action = cc in subst HasTime same tt
initial_time (Sends endpoint destination payload ∷ more) action is at = let same : Sends endpoint destination payload ≡ action = cc in subst HasTime same tt
initial_time (Requests time mode ∷ more) action is at = absurd is
initial_time (Finishes ∷ more) action is at = absurd is
initial_time (Fails text ∷ more) action is at = absurd is

-- a script keeps its rules as it goes on
pub initial_passed : (c : Course) → IsCourse c → IsCourse (record c { initial = drop 1 c.initial })
initial_passed c is = record { initial = is_initial_after c.initial is.initial; times = is.times }

pub words_passed : (c : Course) (v : Sight) → IsCourse c → IsCourse (record c { words = words_after c.words v })
words_passed c v is = record { initial = is.initial; times = keep_times_after c.words v is.times }

-- what gives something is no more than all
given_no_more : (words : List Word) (v : Sight) → length (given_from words v) ≤ length words
given_no_more [] v = omega arith
given_no_more (word ∷ words) v = elim (cases_Bool (gives v word)) [
  | inl given ↦ rw given (omega arith)
  | inr idle ↦ rw idle (let more = given_no_more words v in omega (arith, more))
]

-- an action that answers no letter leaves fewer words
pub words_fall : (words : List Word) (v : Sight) (action : Action) → answers words v ≡ false → next_action words v ≡ action → (action ≡ Finishes → ⊥) →
    length (words_after words v) < length words
words_fall words v action idle next other = go (given_from words v) refl idle
  where
    go : (given : List Word) → given_from words v ≡ given → echo_first given ≡ false → length (behind_first (given_from words v)) < length words
    go [] is isnt = absurd (other (sym next ∙ ap (λ (ws : List Word). first_action ws v) is))
    go (word ∷ more) is isnt =
        let all = given_no_more words v in
        let many : length (given_from words v) ≡ length (word ∷ more) = ap length is in
        let left : length (behind_first (given_from words v)) ≡ length (behind word more) = ap (λ (ws : List Word). length (behind_first ws)) is in
        let rest = passes word more isnt in
        omega (arith, all, many, left, rest)
      where
        passes : (word : Word) (more : List Word) → is_echo word ≡ false → length (behind word more) ≡ length more
        passes (Publish publication value) more isnt = refl
        passes (PublishSum publication input add) more isnt = refl
        passes (Send endpoint destination payload) more isnt = refl
        passes (Echo endpoint) more isnt = absurd (true≢false isnt)
        passes (Request time) more isnt = refl
        passes (Advance by) more isnt = refl
        passes (Iterate time mode) more isnt = refl
        passes Finish more isnt = refl
        passes (Fail text) more isnt = refl

-- the first word that gives something does so
given_gives : (words : List Word) (v : Sight) (word : Word) (more : List Word) → given_from words v ≡ word ∷ more → gives v word ≡ true
given_gives [] v word more is = cc
given_gives (first ∷ words) v word more is = elim (cases_Bool (gives v first)) [
  | inl given ↦ let cut = rw given at is in let same : first ≡ word = cc in ap (gives v) (sym same) ∙ given
  | inr idle ↦ let cut = rw idle at is in given_gives words v word more cut
]

-- what answers a letter is a send
pub answer_sends : (words : List Word) (v : Sight) → answers words v ≡ true → (endpoint : ℕ) × (to : List ℕ) × (payload : List ℕ) × (next_action words v ≡ Sends endpoint to payload)
answer_sends words v answering = go (given_from words v) refl answering
  where
    sends : (endpoint : ℕ) (letters : List Letter) → is_some (echo_of endpoint letters) ≡ true →
        (e : ℕ) × (to : List ℕ) × (payload : List ℕ) × (unwrap_or (echo_of endpoint letters) Finishes ≡ Sends e to payload)
    sends endpoint [] some = absurd (false≢true some)
    sends endpoint (letter ∷ letters) some = (endpoint, letter.source, letter.payload, refl)

    go : (given : List Word) → given_from words v ≡ given → echo_first given ≡ true → (e : ℕ) × (to : List ℕ) × (payload : List ℕ) × (first_action (given_from words v) v ≡ Sends e to payload)
    go [] is holds = absurd (false≢true holds)
    go (Echo endpoint ∷ more) is holds =
        let sent = sends endpoint (letters_at v endpoint) (given_gives words v (Echo endpoint) more is) in
        (sent.0, sent.1, sent.2, ap (λ (ws : List Word). first_action ws v) is ∙ sent.3)
    go (Publish publication value ∷ more) is holds = absurd (false≢true holds)
    go (PublishSum publication input add ∷ more) is holds = absurd (false≢true holds)
    go (Send endpoint destination payload ∷ more) is holds = absurd (false≢true holds)
    go (Request time ∷ more) is holds = absurd (false≢true holds)
    go (Advance by ∷ more) is holds = absurd (false≢true holds)
    go (Iterate time mode ∷ more) is holds = absurd (false≢true holds)
    go (Finish ∷ more) is holds = absurd (false≢true holds)
    go (Fail text ∷ more) is holds = absurd (false≢true holds)

-- it leaves no more words, and a letter less
given_twice : (words : List Word) (v : Sight) → given_from (given_from words v) v ≡ given_from words v
given_twice [] v = refl
given_twice (word ∷ words) v = elim (cases_Bool (gives v word)) [
  | inl given ↦ rw (given, given) refl
  | inr idle ↦ rw idle (given_twice words v)
]

pub answer_leaves : (words : List Word) (v : Sight) → answers words v ≡ true → (length (words_after words v) ≤ length words) × (letters_left (view_after words v) + 1 ≡ letters_left v)
answer_leaves words v answering = go (given_from words v) refl answering
  where
    given : List Word
    given = given_from words v

    stays : words_after given v ≡ words_after words v
    stays = ap behind_first (given_twice words v)

    seen : view_after given v ≡ view_after words v
    seen = ap (seen_after v) (given_twice words v)

    go : (ws : List Word) → given ≡ ws → echo_first ws ≡ true → (length (words_after words v) ≤ length words) × (letters_left (view_after words v) + 1 ≡ letters_left v)
    go [] is holds = absurd (false≢true holds)
    go (Echo endpoint ∷ more) is holds =
        let all = given_no_more words v in
        let left : words_after words v ≡ given = ap behind_first is ∙ sym is in
        let count : length (words_after words v) ≡ length given = ap length left in (
          omega (arith, all, count),
          elim (progresses given v (λ none. let isnt : Echo endpoint ∷ more ≡ [] = sym is ∙ none in cc)) [
            | inl fewer ↦ let same : length (words_after given v) ≡ length (words_after words v) = ap length stays in absurd (omega (arith, fewer, same, count))
            | inr letter ↦ ap (λ (w : Sight). letters_left w + 1) (sym seen) ∙ letter.1
          ],
        )
    go (Publish publication value ∷ more) is holds = absurd (false≢true holds)
    go (PublishSum publication input add ∷ more) is holds = absurd (false≢true holds)
    go (Send endpoint destination payload ∷ more) is holds = absurd (false≢true holds)
    go (Request time ∷ more) is holds = absurd (false≢true holds)
    go (Advance by ∷ more) is holds = absurd (false≢true holds)
    go (Iterate time mode ∷ more) is holds = absurd (false≢true holds)
    go (Finish ∷ more) is holds = absurd (false≢true holds)
    go (Fail text ∷ more) is holds = absurd (false≢true holds)
