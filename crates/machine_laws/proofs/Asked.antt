-- What a federate that waits has asked for: the last of its requests.
use Rattle.std.proofs.Common.{◌≡◌, ◌≢◌, ◌⊎◌, inl, inr, ℕ, zero, suc, ◌<◌, ◌≤◌, Bool, true, false, arith, refl, sym, ◌∙◌, ap, List, [], ◌∷◌, ◌++◌, length, get_or}
use Rattle.std.specs.Prelude.{nat_le, if◌then◌else◌, map}
use Rattle.std.proofs.lemmas.Bool.{cases_eq, cases_lt, false≢true}
use Rattle.std.proofs.lemmas.Bool.Decides.{nat_tests}
use Rattle.helics_time.specs.Stamp.{At, rank}
use Rattle.helics_time.specs.Settings.{Terms}
use Rattle.hel_lists.specs.Members.{IsIn}
use Rattle.due_queue.specs.Item.{Parcel}
use Rattle.due_queue.specs.Order.{insert_all}
use Rattle.iteration_rules.specs.Iteration.{iterates, effective}
use Rattle.iteration_rules.specs.declared.Mode.{Mode}
use Rattle.iteration_rules.specs.declared.Mode.TheVariants.{Next, Force, IfNeeded}
use Rattle.time_state.specs.Fed.{Fed, Request, request_stamp, requested, event_of}
use Rattle.time_state.specs.declared.Cause.TheVariants.{Halted}
use Rattle.time_state.specs.declared.Phase.{Phase}
use Rattle.time_state.specs.declared.Phase.TheVariants.{Created, Initializing, Waiting}
use Rattle.time_state.proofs.Events.{at_most_none, event_waiting}
use Rattle.machine_laws.specs.Plan.{Plan, IsPlan}
use Rattle.machine_laws.specs.Machine.{Member, State, Step, member_at, blank_member, new_member, opening, dues_to, items_in, left_in, begun_member, requested_member, ended_member, halted_from, with_member, IsLawful, after, IsRun}
use Rattle.machine_laws.specs.Machine.Step.{begin, enter, make, request, grant, finish, fail, die, halt}
use Rattle.machine_laws.specs.Laws.{Keeps, RequestsTell, GrantsAsAsked, iterating_last}
use Rattle.machine_laws.proofs.Accepted.{accepted, may_grant, not_waiting}
use Rattle.machine_laws.proofs.Cuts.{dues_of}
use Rattle.machine_laws.proofs.Grants.{grants_on_grid, logs_tell}
use Rattle.machine_laws.proofs.Keep.{keeps_step, keeps_run, keeps_opening}
use Rattle.machine_laws.proofs.Members.{same_member, other_member}
use Rattle.machine_laws.proofs.News.{sender_of}

-- a step that neither asks for f nor is granted to it, and leaves it
record Leaves (p : Plan) (s : State) (step : Step) (f : ℕ) : Type 0 where
  unasked : (t : ℕ) (m : Mode) → request f t m ≡ step → ⊥
  ungranted : grant f ≡ step → ⊥
  member : member_at (after p s step) f ≡ member_at s f

-- a step that asks for f
record Asks (p : Plan) (s : State) (step : Step) (f : ℕ) : Type 0 where
  time : ℕ
  mode : Mode
  is : step ≡ request f time mode
  member : member_at (after p s step) f ≡ requested_member (member_at s f) time mode

-- a begin leaves a member that waits
begun_waits : (m : Member) → (begun_member m).time.phase ≡ Waiting → begun_member m ≡ m
begun_waits m waits = by_phase m.time.phase refl
  where
    by_phase : (q : Phase) → m.time.phase ≡ q → begun_member m ≡ m
    by_phase Created is = let first : (begun_member m).time.phase ≡ Initializing = rw is refl in absurd (apart first)
      where
        apart : (begun_member m).time.phase ≡ Initializing → ⊥
        apart first = let e : Initializing ≡ Waiting = sym first ∙ waits in cc
    by_phase phase is = rw is refl

begins_wait : (ms : List Member) (f : ℕ) → (get_or (map begun_member ms) f blank_member).time.phase ≡ Waiting → get_or (map begun_member ms) f blank_member ≡ get_or ms f blank_member
begins_wait [] f waits = refl
begins_wait (m ∷ ms) zero waits = begun_waits m waits
begins_wait (m ∷ ms) (suc f) waits = begins_wait ms f waits

-- and so does a halt
halts_wait : (core_of : ℕ → ℕ) (core d i : ℕ) (ms : List Member) (f : ℕ) → (get_or (halted_from core_of core d i ms) f blank_member).time.phase ≡ Waiting →
    get_or (halted_from core_of core d i ms) f blank_member ≡ get_or ms f blank_member
halts_wait core_of core d i [] f waits = refl
halts_wait core_of core d i (m ∷ ms) zero waits = by_test _ waits
  where
    by_test : (b : Bool) → (if b then ended_member m (Halted d) else m).time.phase ≡ Waiting → (if b then ended_member m (Halted d) else m) ≡ m
    by_test true ended = cc
    by_test false waits = refl
halts_wait core_of core d i (m ∷ ms) (suc f) waits = halts_wait core_of core d (suc i) ms f waits

-- a step of g after which it doesn't wait is of another than f, which waits
elsewhere : (s : State) (g f : ℕ) (n : Member) (items : List Parcel) → g < length s.members → (n.time.phase ≡ Waiting → ⊥) → (member_at (with_member s g n items) f).time.phase ≡ Waiting →
    (f ≢ g) × (member_at (with_member s g n items) f ≡ member_at s f)
elsewhere s g f n items within idle waits = elim (cases_eq f g) [
  | inl same ↦ absurd (idle (ap (λ (m : Member). m.time.phase) (sym (same_member s g f n items same within)) ∙ waits))
  | inr other ↦ (other, other_member s g f n items (λ e. other (sym e)))
]

-- a federate that waits after a step was left by it, or asked by it
waits_step : (p : Plan) (s : State) (step : Step) (f : ℕ) → Keeps p s → IsLawful p s step → (member_at (after p s step) f).time.phase ≡ Waiting → Leaves p s step f ⊎ Asks p s step f
waits_step p s begin f keeps lawful waits = inl (record { unasked = λ t m e. cc; ungranted = λ e. cc; member = begins_wait s.members f waits })
waits_step p s (enter g) f keeps lawful waits =
    let e = elsewhere s g f _ s.items (accepted s g _ lawful.0).0 (λ w. cc) waits in
    inl (record { unasked = λ t m e. cc; ungranted = λ e. cc; member = e.1 })
waits_step p s (make g call) f keeps lawful waits =
    let sender = sender_of p s g call keeps lawful.0 in
    let e = elsewhere s g f _ (insert_all (items_in p s g call) s.items) sender.within (λ w. not_waiting (member_at s g).time.phase sender.may.phase w) waits in
    inl (record { unasked = λ t m e. cc; ungranted = λ e. cc; member = e.1 })
waits_step p s (request g time mode) f keeps lawful waits = elim (cases_eq f g) [
  | inl same ↦ inr (record {
    time = time;
    mode = mode;
    is = ap (λ (k : ℕ). request k time mode) (sym same);
    member = same_member s g f _ s.items same (accepted s g _ lawful.0).0 ∙ ap (λ (k : ℕ). requested_member (member_at s k) time mode) (sym same);
  })
  | inr other ↦ inl (record {
    unasked = λ t m e. other (cc);
    ungranted = λ e. cc;
    member = other_member s g f _ s.items (λ e. other (sym e));
  })
]
waits_step p s (grant g) f keeps lawful waits =
    let e = elsewhere s g f _ (left_in s g) (may_grant p s g lawful.0).within (λ w. cc) waits in
    inl (record { unasked = λ t m x. cc; ungranted = λ x. e.0 (cc); member = e.1 })
waits_step p s (finish g) f keeps lawful waits =
    let e = elsewhere s g f _ s.items (accepted s g _ lawful.0).0 (λ w. cc) waits in
    inl (record { unasked = λ t m e. cc; ungranted = λ e. cc; member = e.1 })
waits_step p s (fail g text) f keeps lawful waits =
    let e = elsewhere s g f _ s.items (accepted s g _ lawful.0).0 (λ w. cc) waits in
    inl (record { unasked = λ t m e. cc; ungranted = λ e. cc; member = e.1 })
waits_step p s (die g) f keeps lawful waits =
    let e = elsewhere s g f _ s.items (accepted s g _ lawful.0).0 (λ w. cc) waits in
    inl (record { unasked = λ t m e. cc; ungranted = λ e. cc; member = e.1 })
waits_step p s (halt core d) f keeps lawful waits = inl (record { unasked = λ t m e. cc; ungranted = λ e. cc; member = halts_wait p.core core d 0 s.members f waits })

-- steps that leave f
record Left (s t : State) (f : ℕ) (steps : List Step) : Type 0 where
  unasked : (x : ℕ) (m : Mode) → IsIn (request f x m) steps → ⊥
  ungranted : IsIn (grant f) steps → ⊥
  member : member_at t f ≡ member_at s f

-- the last request of f among steps from a state, and such steps behind it
record Since (p : Plan) (s t : State) (f : ℕ) (steps : List Step) : Type 0 where
  before : List Step
  time : ℕ
  mode : Mode
  later : List Step
  split : steps ≡ before ++ request f time mode ∷ later
  at : State
  run : IsRun p s before at
  asked : State
  member : member_at asked f ≡ requested_member (member_at at f) time mode
  left : Left asked t f later

-- a federate that waits at the end was left all the way, or since its last request
waits_run : (p : Plan) (s : State) (steps : List Step) (t : State) (f : ℕ) → IsPlan p → Keeps p s → IsRun p s steps t → (member_at t f).time.phase ≡ Waiting → Left s t f steps ⊎ Since p s t f steps
waits_run p s [] t f plan keeps run waits = inl (record { unasked = λ x m none. absurd none; ungranted = λ none. absurd none; member = ap (λ (u : State). member_at u f) run })
waits_run p s (step ∷ steps) t f plan keeps run waits = elim (waits_run p (after p s step) steps t f plan (keeps_step p s step plan keeps run.0) run.1 waits) [
  | inr since ↦ inr (record {
    before = step ∷ since.before;
    time = since.time;
    mode = since.mode;
    later = since.later;
    split = ap (λ (l : List Step). step ∷ l) since.split;
    at = since.at;
    run = (run.0, since.run);
    asked = since.asked;
    member = since.member;
    left = since.left;
  })
  | inl left ↦ elim (waits_step p s step f keeps run.0 (ap (λ (m : Member). m.time.phase) (sym left.member) ∙ waits)) [
    | inl leaves ↦ inl (record {
      unasked = λ x m among. elim among [ inl here ↦ leaves.unasked x m here | inr later ↦ left.unasked x m later ];
      ungranted = λ among. elim among [ inl here ↦ leaves.ungranted here | inr later ↦ left.ungranted later ];
      member = left.member ∙ leaves.member;
    })
    | inr asks ↦ inr (record {
      before = [];
      time = asks.time;
      mode = asks.mode;
      later = steps;
      split = ap (λ (x : Step). x ∷ steps) asks.is;
      at = s;
      run = refl;
      asked = after p s step;
      member = asks.member;
      left = left;
    })
  ]
]

-- at the opening no federate waits
opening_phase : (ts : List Terms) (f : ℕ) → (get_or (map new_member ts) f blank_member).time.phase ≡ Created
opening_phase [] f = refl
opening_phase (t ∷ ts) zero = refl
opening_phase (t ∷ ts) (suc f) = opening_phase ts f

-- what is asked for by a request after so many iterating grants
abbrev asked_after : ℕ → Mode → ℕ → ℕ → Request
asked_after time mode count most = record { time = time; mode = effective mode count most }

pub requests_tell : RequestsTell
requests_tell p s f steps plan run waits = elim (waits_run p (opening p) steps s f plan (keeps_opening p plan) run waits) [
  | inl left ↦
      let e : Created ≡ Waiting = sym (opening_phase p.settings f) ∙ ap (λ (m : Member). m.time.phase) (sym left.member) ∙ waits in
      absurd (cc)
  | inr since ↦
      let member = since.left.member ∙ since.member in
      let tells = logs_tell p since.at f since.before plan since.run in
      record {
        before = since.before;
        time = since.time;
        mode = since.mode;
        later = since.later;
        split = since.split;
        last = since.left.unasked;
        ungranted = since.left.ungranted;
        at = since.at;
        run = since.run;
        taken = ap (λ (m : Member). m.time.request) member
            ∙ ap (λ (n : ℕ). asked_after since.time since.mode n (member_at since.at f).time.settings.max_iterations) tells.count
            ∙ ap (λ (x : Terms). asked_after since.time since.mode (iterating_last 0 (member_at since.at f).log) x.max_iterations) tells.settings;
        left = member;
      }
]

-- a request that was taken in a mode that iterates was made in that mode, below the limit
taken_iterates : (mode : Mode) (n most : ℕ) → iterates (effective mode n most) ≡ true → ((mode ≡ Force) ⊎ (mode ≡ IfNeeded)) × (n < most)
taken_iterates mode n most it = elim (cases_lt n most) [
  | inl less ↦ (by_mode mode (sym (ap taken (below n most less)) ∙ it), less)
  | inr over ↦ absurd (false≢true (sym (ap taken (reached n most over)) ∙ it))
]
  where
    taken : Bool → Bool
    taken b = iterates (if b then Next else mode)

    below : (a b : ℕ) → a < b → nat_le b a ≡ false
    below a b less = grind (arith, nat_tests)

    reached : (a b : ℕ) → b ≤ a → nat_le b a ≡ true
    reached a b over = grind (arith, nat_tests)

    by_mode : (m : Mode) → iterates m ≡ true → (m ≡ Force) ⊎ (m ≡ IfNeeded)
    by_mode Next it = absurd (false≢true it)
    by_mode Force it = inl refl
    by_mode IfNeeded it = inr refl

-- the event of a federate that waits isn't later than its request
event_within : (p : Plan) (s : State) (f : ℕ) → Keeps p s → (member_at s f).time.phase ≡ Waiting → rank (event_of (member_at s f).time (dues_to s.items f)) ≤ rank (request_stamp (member_at s f).time)
event_within p s f keeps waits =
    let fed : Fed = (member_at s f).time in
    let most = at_most_none fed (dues_to s.items f) (keeps.feds f) (dues_of p s f keeps) in
    let none : rank (event_of fed []) ≡ rank (request_stamp fed) = ap rank (event_waiting fed [] waits ∙ either fed.settings.uninterruptible (request_stamp fed)) in
    omega (arith, most, none)
  where
    either : (b : Bool) (x : At) → (if b then x else x) ≡ x
    either true x = refl
    either false x = refl

pub grants_as_asked : GrantsAsAsked
grants_as_asked p s f before plan run lawful waits =
    let asked = requests_tell p s f before plan run waits in
    let tells = logs_tell p s f before plan run in
    let grid = grants_on_grid p s f before plan run lawful in
    let within = event_within p s f (keeps_run p (opening p) before s plan (keeps_opening p plan) run) waits in
    let stamp : request_stamp (member_at s f).time ≡ request_stamp (requested (member_at asked.at f).time asked.time asked.mode) = ap (λ (m : Member). request_stamp m.time) asked.left in
    let rank_is : rank (request_stamp (member_at s f).time) ≡ rank (request_stamp (requested (member_at asked.at f).time asked.time asked.mode)) = ap rank stamp in
    record {
      asked = asked;
      within = omega (arith, within, rank_is);
      iterating = λ kind. taken_iterates asked.mode _ _ (ap (λ (r : Request). iterates r.mode) (sym asked.taken) ∙ (grid.iterating kind).2);
      uninterruptible = λ un. grid.uninterruptible waits (ap (λ (x : Terms). x.uninterruptible) tells.settings ∙ un) ∙ stamp;
    }
