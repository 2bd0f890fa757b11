-- Cuts and sequence numbers never fall, so nothing is late.
use Rattle.std.proofs.Common.{◌≡◌, ℕ, ◌<◌, ◌≤◌, true, arith, refl, ap, List, [], ◌∷◌}
use Rattle.std.proofs.lemmas.Bool.{false≢true}
use Rattle.helics_time.specs.Stamp.{At, IsDue, rank}
use Rattle.hel_lists.specs.Members.{Each}
use Rattle.time_state.specs.Fed.{Fed, IsFed, event_of, is_asking}
use Rattle.time_state.specs.declared.Phase.{Phase}
use Rattle.time_state.specs.declared.Phase.TheVariants.{Entering, Waiting}
use Rattle.time_state.proofs.Ranges.{event_goes}
use Rattle.machine_laws.specs.Plan.{Plan, IsPlan}
use Rattle.machine_laws.specs.Machine.{Member, State, Step, member_at, dues_to, cut_in, opening, IsLawful, after, IsRun}
use Rattle.machine_laws.specs.Machine.Step.{make, grant}
use Rattle.machine_laws.specs.Laws.{Keeps, NothingLate}
use Rattle.machine_laws.proofs.Accepted.{may_grant}
use Rattle.machine_laws.proofs.Calm.{Calmer, calm_step}
use Rattle.machine_laws.proofs.Cuts.{dues_of, granted_is}
use Rattle.machine_laws.proofs.Keep.{keeps_step, keeps_run, keeps_opening}
use Rattle.machine_laws.proofs.Members.{same_member, by_member}
use Rattle.machine_laws.proofs.News.{sender_of}

-- a grant's stamp is above that of the grant before
pub event_above : (f : Fed) (dues : List At) → IsFed f → Each IsDue dues → is_asking f.phase ≡ true → rank f.last < rank (event_of f dues)
event_above f dues fed due asks = by_phase f.phase refl asks
  where
    by_phase : (q : Phase) → f.phase ≡ q → is_asking q ≡ true → rank f.last < rank (event_of f dues)
    by_phase Entering is asks =
        let zero_at : f.last ≡ record { time = 0; micro = 0 } = fed.first (rw is refl) in
        let last : rank f.last ≡ 0 = ap rank zero_at in
        let event : rank (event_of f dues) ≡ 1 = rw is refl in
        omega (arith, last, event)
    by_phase Waiting is asks = (event_goes f dues fed is due).rises
    by_phase phase is asks = absurd (false≢true asks)

-- what may change of a member: its last cut and its number rise
pub record Onward (m n : Member) : Type 0 where
  pub cut : rank m.time.last_cut ≤ rank n.time.last_cut
  pub seq : m.seq ≤ n.seq

-- a calmer member has the same
onward_calm : {m n : Member} → Calmer m n → Onward m n
onward_calm {m} {n} calm = record {
  cut = (let e : rank n.time.last_cut ≡ rank m.time.last_cut = ap rank calm.same.cut in omega (arith, e));
  seq = (let e = calm.seq in omega (arith, e));
}

-- the same, where the member is that of f
same_of : (s : State) (f x : ℕ) (n : Member) → x ≡ f → Onward (member_at s f) n → Onward (member_at s x) n
same_of s f x n same onward =
    let cut : rank (member_at s x).time.last_cut ≡ rank (member_at s f).time.last_cut = ap (λ (k : ℕ). rank (member_at s k).time.last_cut) same in
    let seq : (member_at s x).seq ≡ (member_at s f).seq = ap (λ (k : ℕ). (member_at s k).seq) same in
    record { cut = (let c = onward.cut in omega (arith, cut, c)); seq = (let q = onward.seq in omega (arith, seq, q)) }

stays : (m : Member) → Onward m m
stays m = record { cut = omega arith; seq = omega arith }

-- every step leads each member onward
pub onward_step : (p : Plan) (s : State) (step : Step) → Keeps p s → IsLawful p s step → (x : ℕ) → Onward (member_at s x) (member_at (after p s step) x)
onward_step p s (make f call) keeps lawful x =
    by_member (λ (m : Member). Onward (member_at s x) m) s f x _ s.items (sender_of p s f call keeps lawful.0).within
    (λ same. same_of s f x _ same (record { cut = omega arith; seq = omega arith }))
    (λ other. stays (member_at s x))
onward_step p s (grant f) keeps lawful x =
    let may = may_grant p s f lawful.0 in
    let above = event_above (member_at s f).time (dues_to s.items f) (keeps.feds f) (dues_of p s f keeps) may.asks in
    let low = (granted_is p s f keeps may).cut_low in
    let high = (keeps.feds f).cut_high in
    by_member (λ (m : Member). Onward (member_at s x) m) s f x _ s.items may.within
    (λ same. same_of s f x _ same (record { cut = omega (arith, above, low, high); seq = omega arith }))
    (λ other. stays (member_at s x))
onward_step p s step keeps lawful x = onward_calm (calm_step p s step keeps.feds lawful tt x)

-- and so does every run
pub onward_run : (p : Plan) (s : State) (steps : List Step) (t : State) → IsPlan p → Keeps p s → IsRun p s steps t → (x : ℕ) → Onward (member_at s x) (member_at t x)
onward_run p s [] t plan keeps run x = record {
  cut = (let e : rank (member_at t x).time.last_cut ≡ rank (member_at s x).time.last_cut = ap (λ (u : State). rank (member_at u x).time.last_cut) run in omega (arith, e));
  seq = (let e : (member_at t x).seq ≡ (member_at s x).seq = ap (λ (u : State). (member_at u x).seq) run in omega (arith, e));
}
onward_run p s (step ∷ steps) t plan keeps run x =
    let one = onward_step p s step keeps run.0 x in
    let more = onward_run p (after p s step) steps t plan (keeps_step p s step plan keeps run.0) run.1 x in
    record { cut = (let a = one.cut in let b = more.cut in omega (arith, a, b)); seq = (let a = one.seq in let b = more.seq in omega (arith, a, b)) }

-- the last cut is at least the grant's ever after, and each undelivered item is above it
pub nothing_late : NothingLate
nothing_late p s t f before later i plan run lawful rest among same =
    let keeps = keeps_run p (opening p) before s plan (keeps_opening p plan) run in
    let next = keeps_step p s (grant f) plan keeps lawful in
    let rise = (onward_run p (after p s (grant f)) later t plan next rest f).cut in
    let cut : rank (member_at (after p s (grant f)) f).time.last_cut ≡ rank (cut_in s f) = ap (λ (m : Member). rank m.time.last_cut) (same_member s f f _ s.items refl (may_grant p s f lawful.0).within) in
    let late = (keeps_run p (after p s (grant f)) later t plan next rest).late i among in
    let target : rank (member_at t i.target).time.last_cut ≡ rank (member_at t f).time.last_cut = ap (λ (k : ℕ). rank (member_at t k).time.last_cut) same in
    omega (arith, rise, cut, late, target)
