-- Grants rise on their grid, and the logs tell of them.
use Rattle.std.proofs.Common.{◌≡◌, ◌⊎◌, inl, inr, ℕ, zero, suc, ◌+◌, ◌<◌, ◌≤◌, Bool, true, false, arith, refl, sym, ◌∙◌, ap, subst, List, [], ◌∷◌, ◌++◌, get_or}
use Rattle.std.specs.Prelude.{◌==◌, if◌then◌else◌, map}
use Rattle.std.specs.List.Sorted.{IsStrictlyIncreasing}
use Rattle.std.proofs.lemmas.Bool.{eqb-true, eq-eqb, false≢true}
use Rattle.std.proofs.lemmas.List.{map-append}
use Rattle.helics_time.specs.Stamp.{At, IsDue, rank}
use Rattle.helics_time.specs.Settings.{Terms}
use Rattle.hel_lists.specs.Members.{Each}
use Rattle.hel_lists.proofs.Members.{in_map, in_pushed, rises_pushed}
use Rattle.due_queue.specs.Item.{Parcel}
use Rattle.iteration_rules.specs.declared.Kind.TheVariants.{NextStep, Iterating}
use Rattle.time_state.specs.Fed.{Fed, IsFed, zero_stamp, event_of, is_asking, is_first, is_iterating, request_stamp, grant_of, least_with}
use Rattle.time_state.specs.declared.Phase.{Phase}
use Rattle.time_state.specs.declared.Phase.TheVariants.{Entering, Waiting}
use Rattle.time_state.proofs.Events.{event_waiting}
use Rattle.time_state.proofs.Ranges.{event_goes, event_steps}
use Rattle.time_state.proofs.Stamps.{iterating_waits}
use Rattle.machine_laws.specs.declared.logs.LogEntry.{LogEntry}
use Rattle.machine_laws.specs.Plan.{Plan, IsPlan}
use Rattle.machine_laws.specs.Machine.{Member, State, Step, member_at, blank_member, default_terms, new_member, opening, dues_to, granted_member, IsLawful, after, IsRun}
use Rattle.machine_laws.specs.Machine.Step.{make, grant}
use Rattle.machine_laws.specs.Laws.{Keeps, OnGrid, GrantsOnGrid, entry_rank, Rises, LogsRise, LogsTell, BeginsWithEntry, stamp_of, last_stamp, iterating_after, iterating_last}
use Rattle.machine_laws.proofs.Accepted.{may_grant}
use Rattle.machine_laws.proofs.Calm.{Calmer, is_past, calm_step}
use Rattle.machine_laws.proofs.Cuts.{dues_of}
use Rattle.machine_laws.proofs.Keep.{keeps_step, keeps_run, keeps_opening}
use Rattle.machine_laws.proofs.Members.{by_member}
use Rattle.machine_laws.proofs.News.{sender_of}
use Rattle.machine_laws.proofs.Onward.{event_above}

-- a grant that is a NextStep has another time than the grant before
kind_next : (a b : ℕ) → (if a == b then Iterating else NextStep) ≡ NextStep → a ≡ b → ⊥
kind_next a b kind same = clash (a == b) kind (eq-eqb a b same)
  where
    clash : (t : Bool) → (if t then Iterating else NextStep) ≡ NextStep → t ≡ true → ⊥
    clash true kind is = cc
    clash false kind is = false≢true is

-- and one that iterates has the same
kind_iterating : (a b : ℕ) → (if a == b then Iterating else NextStep) ≡ Iterating → a ≡ b
kind_iterating a b kind = eqb-true a b (holds (a == b) kind)
  where
    holds : (t : Bool) → (if t then Iterating else NextStep) ≡ Iterating → t ≡ true
    holds true kind = refl
    holds false kind = cc

-- a grant is the entry, or that of a federate that waits
on_grid : (f : Fed) (dues : List At) → IsFed f → Each IsDue dues → is_asking f.phase ≡ true → OnGrid f (grant_of f dues)
on_grid f dues fed due asks = by_phase f.phase refl asks
  where
    above : rank f.last < rank (event_of f dues)
    above = event_above f dues fed due asks

    apart : {q : Phase} → q ≡ Entering → q ≡ Waiting → ⊥
    apart enters waits = cc

    waiting : f.phase ≡ Waiting → OnGrid f (grant_of f dues)
    waiting is =
        let goes = event_goes f dues fed is due in
        let steps = event_steps f dues fed is due in
        let kind : (grant_of f dues).kind ≡ (if (event_of f dues).time == f.last.time then Iterating else NextStep) = ap (λ (b : Bool). if b then Iterating else NextStep) (iterating_waits f (event_of f dues) is) in
        record {
          rises = above;
          entry = λ enters. absurd (apart enters is);
          next = λ waits k. steps.next (kind_next (event_of f dues).time f.last.time (sym kind ∙ k));
          iterating = λ k.
              (let same = kind_iterating (event_of f dues).time f.last.time (sym kind ∙ k) in
              (is, same, steps.same same, goes.same same));
          uninterruptible = λ waits un. event_waiting f dues is ∙ ap (λ (b : Bool). if b then request_stamp f else least_with f (request_stamp f) dues) un;
        }

    entering : f.phase ≡ Entering → OnGrid f (grant_of f dues)
    entering is =
        let kind : (grant_of f dues).kind ≡ NextStep = rw is refl in
        let at : event_of f dues ≡ record { time = 0; micro = 1 } = rw is refl in
        record {
          rises = above;
          entry = λ enters. (ap (λ (y : At). y.time) at, ap (λ (y : At). y.micro) at, kind);
          next = λ waits k. absurd (apart is waits);
          iterating = λ k. absurd (kinds (sym kind ∙ k));
          uninterruptible = λ waits un. absurd (apart is waits);
        }
      where
        kinds : NextStep ≡ Iterating → ⊥
        kinds e = cc

    by_phase : (q : Phase) → f.phase ≡ q → is_asking q ≡ true → OnGrid f (grant_of f dues)
    by_phase Entering is asks = entering is
    by_phase Waiting is asks = waiting is
    by_phase phase is asks = absurd (false≢true asks)

pub grants_on_grid : GrantsOnGrid
grants_on_grid p s f before plan run lawful =
    let keeps = keeps_run p (opening p) before s plan (keeps_opening p plan) run in
    on_grid (member_at s f).time (dues_to s.items f) (keeps.feds f) (dues_of p s f keeps) (may_grant p s f lawful.0).asks

-- the stamps of a log with one more entry rise where the new one is above the others
rises_push : (es : List LogEntry) (e : LogEntry) → Rises es → Each (λ (x : LogEntry). entry_rank x < entry_rank e) es → Rises (es ++ e ∷ [])
rises_push es e rises below =
    subst IsStrictlyIncreasing (sym (map-append entry_rank es (e ∷ []))) (rises_pushed (map entry_rank es) (entry_rank e) rises (λ y among.
    let x = in_map entry_rank es y among in subst (λ (k : ℕ). k < entry_rank e) (sym x.2) (below x.0 x.1)))

-- its last stamp is that of the new entry
last_push : (s : At) (es : List LogEntry) (e : LogEntry) → last_stamp s (es ++ e ∷ []) ≡ stamp_of e.grant
last_push s [] e = refl
last_push s (x ∷ es) e = last_push (stamp_of x.grant) es e

-- and its count of iterating grants goes on by the new kind
iterating_push : (n : ℕ) (es : List LogEntry) (e : LogEntry) → iterating_last n (es ++ e ∷ []) ≡ iterating_after (iterating_last n es) e.grant.kind
iterating_push n [] e = refl
iterating_push n (x ∷ es) e = iterating_push (iterating_after n x.grant.kind) es e

-- a log that has begun has begun with the entry, and goes on
begins_push : (es : List LogEntry) (e : LogEntry) → (es ≡ [] → ⊥) → BeginsWithEntry es → BeginsWithEntry (es ++ e ∷ [])
begins_push [] e some begins = absurd (some refl)
begins_push (x ∷ es) e some begins = begins

-- and isn't empty
some_push : (es : List LogEntry) (e : LogEntry) → es ++ e ∷ [] ≡ [] → ⊥
some_push [] e none = cc
some_push (x ∷ es) e none = cc

-- what every log of a run keeps: before the entry it is empty, and after it no longer
record Logged (m : Member) : Type 0 where
  rises : Rises m.log
  below : Each (λ (x : LogEntry). rank (stamp_of x.grant) ≤ rank m.time.last) m.log
  last : m.time.last ≡ last_stamp zero_stamp m.log
  count : m.time.count ≡ iterating_last 0 m.log
  entry : BeginsWithEntry m.log
  first : is_first m.time.phase ≡ true → m.log ≡ []
  past : is_past m.time.phase ≡ true → m.log ≡ [] → ⊥

-- a calmer member keeps it
logged_calm : {m n : Member} → Calmer m n → Logged m → Logged n
logged_calm {m} {n} calm logged = record {
  rises = subst (λ (es : List LogEntry). Rises es) (sym calm.log) logged.rises;
  below = subst (λ (es : List LogEntry). Each (λ (x : LogEntry). rank (stamp_of x.grant) ≤ rank n.time.last) es) (sym calm.log)
      (λ x among. (let e : rank n.time.last ≡ rank m.time.last = ap rank calm.same.last in let b = logged.below x among in omega (arith, e, b)));
  last = calm.same.last ∙ logged.last ∙ ap (last_stamp zero_stamp) (sym calm.log);
  count = calm.same.count ∙ logged.count ∙ ap (iterating_last 0) (sym calm.log);
  entry = subst (λ (es : List LogEntry). BeginsWithEntry es) (sym calm.log) logged.entry;
  first = λ is. calm.log ∙ logged.first (calm.phase.first is);
  past = λ is none. logged.past (calm.phase.past is) (sym calm.log ∙ none);
}

-- a granted member keeps it
logged_grant : (m : Member) (dues : List At) (handed : List Parcel) → IsFed m.time → Each IsDue dues → is_asking m.time.phase ≡ true → Logged m → Logged (granted_member m dues handed)
logged_grant m dues handed fed due asks logged = record {
  rises = rises_push m.log _ logged.rises (λ y among. (let b = logged.below y among in omega (arith, b, above)));
  below = λ y among. elim (in_pushed m.log _ y among) [
    | inl old ↦ (let b = logged.below y old in omega (arith, b, above))
    | inr new ↦ (let e : rank (stamp_of y.grant) ≡ rank (event_of m.time dues) = ap (λ (z : LogEntry). rank (stamp_of z.grant)) new in omega (arith, e))
  ];
  last = sym (last_push zero_stamp m.log _);
  count = by_kind (is_iterating m.time (event_of m.time dues)) ∙ sym (iterating_push 0 m.log _);
  entry = elim (asking m.time.phase asks) [
    | inl enters ↦ subst (λ (es : List LogEntry). BeginsWithEntry (es ++ new ∷ [])) (sym (logged.first (rw enters refl))) (entry_is enters)
    | inr waits ↦ begins_push m.log new (logged.past (rw waits refl)) logged.entry
  ];
  first = λ is. absurd (false≢true is);
  past = λ is none. some_push m.log new none;
}
  where
    above : rank m.time.last < rank (event_of m.time dues)
    above = event_above m.time dues fed due asks

    new : LogEntry
    new = record { grant = grant_of m.time dues; items = handed }

    asking : (q : Phase) → is_asking q ≡ true → (q ≡ Entering) ⊎ (q ≡ Waiting)
    asking Entering is = inl refl
    asking Waiting is = inr refl
    asking phase is = absurd (false≢true is)

    entry_is : m.time.phase ≡ Entering → new.grant ≡ record { time = 0; micro = 1; kind = NextStep }
    entry_is enters =
        let entry = (on_grid m.time dues fed due asks).entry enters in
        let time = entry.0 in
        let micro = entry.1 in
        let kind = entry.2 in
        λ i. record { time = time i; micro = micro i; kind = kind i }

    by_kind : (b : Bool) → (if b then m.time.count + 1 else 0) ≡ iterating_after (iterating_last 0 m.log) (if b then Iterating else NextStep)
    by_kind true = ap (λ (n : ℕ). n + 1) logged.count
    by_kind false = refl

-- so every step keeps it
logged_step : (p : Plan) (s : State) (step : Step) → Keeps p s → IsLawful p s step → ((x : ℕ) → Logged (member_at s x)) → (x : ℕ) → Logged (member_at (after p s step) x)
logged_step p s (make f call) keeps lawful logged x =
    by_member Logged s f x _ s.items (sender_of p s f call keeps lawful.0).within
    (λ same. let l = logged f in record { rises = l.rises; below = l.below; last = l.last; count = l.count; entry = l.entry; first = l.first; past = l.past })
    (λ other. logged x)
logged_step p s (grant f) keeps lawful logged x =
    let may = may_grant p s f lawful.0 in
    by_member Logged s f x _ s.items may.within (λ same. logged_grant (member_at s f) (dues_to s.items f) _ (keeps.feds f) (dues_of p s f keeps) may.asks (logged f)) (λ other. logged x)
logged_step p s step keeps lawful logged x = logged_calm (calm_step p s step keeps.feds lawful tt x) (logged x)

-- and every run
logged_run : (p : Plan) (s : State) (steps : List Step) (t : State) → IsPlan p → Keeps p s → IsRun p s steps t → ((x : ℕ) → Logged (member_at s x)) → (x : ℕ) → Logged (member_at t x)
logged_run p s [] t plan keeps run logged x = subst (λ (u : State). Logged (member_at u x)) (sym run) (logged x)
logged_run p s (step ∷ steps) t plan keeps run logged x =
    logged_run p (after p s step) steps t plan (keeps_step p s step plan keeps run.0) run.1 (logged_step p s step keeps run.0 logged) x

-- and it holds at the opening
logged_new : (terms : Terms) → Logged (new_member terms)
logged_new terms = record {
  rises = λ k below. absurd (omega arith);
  below = λ y none. absurd none;
  last = refl;
  count = refl;
  entry = tt;
  first = λ is. refl;
  past = λ is. absurd (false≢true is);
}

logged_opening : (ts : List Terms) (x : ℕ) → Logged (get_or (map new_member ts) x blank_member)
logged_opening [] x = logged_new default_terms
logged_opening (t ∷ ts) zero = logged_new t
logged_opening (t ∷ ts) (suc x) = logged_opening ts x

-- so it holds in every run
logged : (p : Plan) (s : State) (f : ℕ) (steps : List Step) → IsPlan p → IsRun p (opening p) steps s → Logged (member_at s f)
logged p s f steps plan run = logged_run p (opening p) steps s plan (keeps_opening p plan) run (logged_opening p.settings) f

pub logs_rise : LogsRise
logs_rise p s f steps plan run = (logged p s f steps plan run).rises

-- settings stay
settings_step : (p : Plan) (s : State) (step : Step) → Keeps p s → IsLawful p s step → (x : ℕ) → (member_at (after p s step) x).time.settings ≡ (member_at s x).time.settings
settings_step p s (make f call) keeps lawful x =
    by_member (λ (m : Member). m.time.settings ≡ (member_at s x).time.settings) s f x _ s.items (sender_of p s f call keeps lawful.0).within
    (λ same. ap (λ (k : ℕ). (member_at s k).time.settings) (sym same))
    (λ other. refl)
settings_step p s (grant f) keeps lawful x =
    by_member (λ (m : Member). m.time.settings ≡ (member_at s x).time.settings) s f x _ s.items (may_grant p s f lawful.0).within
    (λ same. ap (λ (k : ℕ). (member_at s k).time.settings) (sym same))
    (λ other. refl)
settings_step p s step keeps lawful x = (calm_step p s step keeps.feds lawful tt x).same.settings

settings_run : (p : Plan) (s : State) (steps : List Step) (t : State) → IsPlan p → Keeps p s → IsRun p s steps t → (x : ℕ) → (member_at t x).time.settings ≡ (member_at s x).time.settings
settings_run p s [] t plan keeps run x = ap (λ (u : State). (member_at u x).time.settings) run
settings_run p s (step ∷ steps) t plan keeps run x =
    settings_run p (after p s step) steps t plan (keeps_step p s step plan keeps run.0) run.1 x ∙ settings_step p s step keeps run.0 x

-- and at the opening they are the plan's
settings_opening : (ts : List Terms) (x : ℕ) → (get_or (map new_member ts) x blank_member).time.settings ≡ get_or ts x default_terms
settings_opening [] x = refl
settings_opening (t ∷ ts) zero = refl
settings_opening (t ∷ ts) (suc x) = settings_opening ts x

pub logs_tell : LogsTell
logs_tell p s f steps plan run =
    let l = logged p s f steps plan run in
    record {
      entry = l.entry;
      settings = settings_run p (opening p) steps s plan (keeps_opening p plan) run f ∙ settings_opening p.settings f;
      last = l.last;
      count = l.count;
    }
