-- Steps that neither put items in nor hand any over.
use Rattle.std.proofs.Common.{◌≡◌, ◌≢◌, ℕ, zero, suc, ◌≤◌, ◌<◌, Bool, true, false, arith, refl, sym, ap, subst, List, [], ◌∷◌, length, get_or, None}
use Rattle.std.specs.Prelude.{◌==◌, ◌&&◌, if◌then◌else◌, map}
use Rattle.std.proofs.lemmas.Bool.{false≢true}
use Rattle.helics_time.specs.Stamp.{At, IsDue, rank}
use Rattle.helics_time.specs.Settings.{IsTerms}
use Rattle.hel_lists.specs.Members.{Each}
use Rattle.time_state.specs.Fed.{Fed, IsFed, is_first, ended, event_of, is_live}
use Rattle.time_state.specs.Laws.{Turn, MayTurn, turned}
use Rattle.time_state.specs.Laws.Turn.{begins, enters, requests, finishes}
use Rattle.time_state.specs.declared.Cause.{Cause}
use Rattle.time_state.specs.declared.Cause.TheVariants.{Finished, Failed, Died, Halted}
use Rattle.time_state.specs.declared.Phase.{Phase}
use Rattle.time_state.specs.declared.Phase.TheVariants.{Created, Running, Waiting}
use Rattle.time_state.proofs.Events.{at_most_none}
use Rattle.time_state.proofs.Turns.{may_enter, may_request, ends_keep, turn_stands, turns_rise, opening_stands, end_stands}
use Rattle.machine_laws.specs.Plan.{Plan}
use Rattle.machine_laws.specs.Machine.{Member, State, Step, member_at, blank_member, default_terms, begun_member, ended_member, halted_from, with_member, after, IsLawful}
use Rattle.machine_laws.specs.Machine.Step.{begin, enter, make, request, grant, finish, fail, die, halt}
use Rattle.machine_laws.proofs.Accepted.{accepted, none_mapped, lives, calling}
use Rattle.machine_laws.proofs.Members.{by_member}

-- what was granted last, and on which settings
pub record SameGrant (f g : Fed) : Type 0 where
  pub settings : g.settings ≡ f.settings
  pub last : g.last ≡ f.last
  pub cut : g.last_cut ≡ f.last_cut
  pub count : g.count ≡ f.count

-- a federate in this phase has been granted its entry
abbrev pub is_past : Phase → Bool
is_past Running = true
is_past Waiting = true
is_past phase = false

-- q is before the entry, or past it, only where p is
pub record SamePast (p q : Phase) : Type 0 where
  pub first : is_first q ≡ true → is_first p ≡ true
  pub past : is_past q ≡ true → is_past p ≡ true

-- what such a step does to a member: the event may rise, and what was granted and given out stays
pub record Calmer (m n : Member) : Type 0 where
  pub fed : IsFed n.time
  pub same : SameGrant m.time n.time
  pub phase : SamePast m.time.phase n.time.phase
  pub seq : n.seq ≡ m.seq
  pub log : n.log ≡ m.log
  pub rises : (dues : List At) → Each IsDue dues → rank (event_of m.time dues) ≤ rank (event_of n.time dues)

-- a member that stays
pub calm_same : (m : Member) → IsFed m.time → Calmer m m
calm_same m fed = record {
  fed = fed;
  same = record { settings = refl; last = refl; cut = refl; count = refl };
  phase = record { first = λ e. e; past = λ e. e };
  seq = refl;
  log = refl;
  rises = λ dues due. omega arith;
}

-- a call of time grants nothing
turn_same : (f : Fed) (t : Turn) → SameGrant f (turned f t)
turn_same f begins = record { settings = refl; last = refl; cut = refl; count = refl }
turn_same f turn = record { settings = refl; last = refl; cut = refl; count = refl }

-- and it leads past no entry
turn_past : (f : Fed) (t : Turn) → MayTurn f t → SamePast f.phase (turned f t).phase
turn_past f begins may = record { first = λ e. rw may refl; past = λ e. absurd (false≢true e) }
turn_past f enters may = record { first = λ e. rw (may_enter f may) refl; past = λ e. absurd (false≢true e) }
turn_past f (requests time mode) may = record { first = λ e. absurd (false≢true e); past = λ e. rw (may_request f may.0).0 refl }
turn_past f finishes may = record { first = λ e. absurd (false≢true e); past = λ e. absurd (false≢true e) }

-- a call of time
pub calm_turn : (m : Member) (t : Turn) → IsFed m.time → MayTurn m.time t → Calmer m (record m { time = turned m.time t })
calm_turn m t fed may = record {
  fed = turn_stands m.time t fed may;
  same = turn_same m.time t;
  phase = turn_past m.time t may;
  seq = refl;
  log = refl;
  rises = λ dues due. turns_rise m.time t dues dues fed due due may;
}

-- an end otherwise than by finishing
pub calm_end : (m : Member) (c : Cause) (text : List ℕ) → IsFed m.time → is_live m.time.phase ≡ true → c ≢ Finished →
    Calmer m (record m { time = ended m.time c []; text = text })
calm_end m c text fed live other = record {
  fed = end_stands m.time c [] fed (λ d none. absurd none) live;
  same = record { settings = refl; last = refl; cut = refl; count = refl };
  phase = record { first = λ e. absurd (false≢true e); past = λ e. absurd (false≢true e) };
  seq = refl;
  log = refl;
  rises = λ dues due.
      (let most = at_most_none m.time dues fed due in
      let same : rank (event_of (ended m.time c []) dues) ≡ rank (event_of m.time []) = ap rank (ends_keep m.time c [] dues other) in
      omega (arith, most, same));
}

-- a begin
begun_calm : (m : Member) → IsFed m.time → Calmer m (begun_member m)
begun_calm m fed = by_phase m.time.phase refl
  where
    by_phase : (q : Phase) → m.time.phase ≡ q → Calmer m (begun_member m)
    by_phase Created is =
        let e : begun_member m ≡ record m { time = turned m.time begins } = rw is refl in
        subst (λ (n : Member). Calmer m n) (sym e) (calm_turn m begins fed is)
    by_phase phase is =
        let e : begun_member m ≡ m = rw is refl in
        subst (λ (n : Member). Calmer m n) (sym e) (calm_same m fed)

-- the default settings are settings
pub default_is : IsTerms default_terms
default_is = record { period = omega arith; offset = omega arith; time_delta = omega arith; input_delay = omega arith; output_delay = omega arith; some_iterations = omega arith; few_iterations = omega arith }

-- so a federate that is in no plan keeps the facts of one
blank_is : IsFed blank_member.time
blank_is = opening_stands default_terms default_is

-- a begin does it to every member
begins_calm : (ms : List Member) (f : ℕ) → ((g : ℕ) → IsFed (get_or ms g blank_member).time) → Calmer (get_or ms f blank_member) (get_or (map begun_member ms) f blank_member)
begins_calm [] f feds = calm_same blank_member blank_is
begins_calm (m ∷ ms) zero feds = begun_calm m (feds 0)
begins_calm (m ∷ ms) (suc f) feds = begins_calm ms f (λ g. feds (suc g))

-- a halt
halts_calm : (core_of : ℕ → ℕ) (core d i : ℕ) (ms : List Member) (f : ℕ) → ((g : ℕ) → IsFed (get_or ms g blank_member).time) →
    Calmer (get_or ms f blank_member) (get_or (halted_from core_of core d i ms) f blank_member)
halts_calm core_of core d i [] f feds = calm_same blank_member blank_is
halts_calm core_of core d i (m ∷ ms) zero feds = by_test (core_of i == core) (is_live m.time.phase) refl
  where
    by_test : (b l : Bool) → is_live m.time.phase ≡ l → Calmer m (if b && l then ended_member m (Halted d) else m)
    by_test true true live = calm_end m (Halted d) m.text (feds 0) live (λ e. cc)
    by_test true false live = calm_same m (feds 0)
    by_test false l live = calm_same m (feds 0)
halts_calm core_of core d i (m ∷ ms) (suc f) feds = halts_calm core_of core d (suc i) ms f (λ g. feds (suc g))

-- steps other than calls that send and grants
abbrev pub IsCalm : Step → Type 0
IsCalm (make f call) = ⊥
IsCalm (grant f) = ⊥
IsCalm step = Unit {0}

-- every federate keeps the facts of its time
abbrev pub Feds : State → Type 0
Feds s = (f : ℕ) → IsFed (member_at s f).time

-- where one member is calmer, each is
calm_member : (s : State) (f : ℕ) (n : Member) → Feds s → f < length s.members → Calmer (member_at s f) n → (x : ℕ) → Calmer (member_at s x) (member_at (with_member s f n s.items) x)
calm_member s f n feds within calm x =
    by_member (λ (k : Member). Calmer (member_at s x) k) s f x n s.items within
    (λ same. subst (λ (k : ℕ). Calmer (member_at s k) n) (sym same) calm)
    (λ other. calm_same (member_at s x) (feds x))

-- such a step makes every member calmer
pub calm_step : (p : Plan) (s : State) (step : Step) → Feds s → IsLawful p s step → IsCalm step → (x : ℕ) → Calmer (member_at s x) (member_at (after p s step) x)
calm_step p s begin feds lawful calm x = begins_calm s.members x feds
calm_step p s (enter f) feds lawful calm x =
    let k = accepted s f _ lawful.0 in calm_member s f _ feds k.0 (calm_turn (member_at s f) enters (feds f) (none_mapped _ _ k.1)) x
calm_step p s (make f call) feds lawful calm x = absurd calm
calm_step p s (request f time mode) feds lawful calm x =
    let k = accepted s f _ lawful.0 in calm_member s f _ feds k.0 (calm_turn (member_at s f) (requests time mode) (feds f) (none_mapped _ _ k.1, lawful.1)) x
calm_step p s (grant f) feds lawful calm x = absurd calm
calm_step p s (finish f) feds lawful calm x =
    let k = accepted s f _ lawful.0 in calm_member s f _ feds k.0 (calm_turn (member_at s f) finishes (feds f) (calling (member_at s f).time.phase None k.1).0) x
calm_step p s (fail f text) feds lawful calm x =
    let k = accepted s f _ lawful.0 in calm_member s f _ feds k.0 (calm_end (member_at s f) Failed text (feds f) (lives (member_at s f).time.phase k.1) (λ e. cc)) x
calm_step p s (die f) feds lawful calm x =
    let k = accepted s f _ lawful.0 in calm_member s f _ feds k.0 (calm_end (member_at s f) Died (member_at s f).text (feds f) (lives (member_at s f).time.phase k.1) (λ e. cc)) x
calm_step p s (halt core f) feds lawful calm x = halts_calm p.core core f 0 s.members x feds
