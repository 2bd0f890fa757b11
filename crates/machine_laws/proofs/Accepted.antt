-- What an accepted step tells of the federate that takes it.
use Rattle.std.proofs.Common.{◌≡◌, ◌⊎◌, inl, inr, ℕ, ◌^◌, ◌<◌, Bool, true, false, arith, refl, sym, ◌∙◌, ap, List, length, Option, Some, None}
use Rattle.std.specs.Prelude.{nat_lt, if◌then◌else◌, option_map}
use Rattle.std.specs.Option.{option_or}
use Rattle.std.proofs.lemmas.Bool.{ltb-true, lt-ltb}
use Rattle.std.proofs.lemmas.Bool.Decides.{nat_tests}
use Rattle.helics_time.specs.Time.{horizon}
use Rattle.helics_time.specs.Stamp.{At}
use Rattle.time_state.specs.Fed.{Fed, IsFed, event_of, is_asking, is_live}
use Rattle.time_state.specs.declared.Phase.{Phase}
use Rattle.time_state.specs.declared.Phase.TheVariants.{Initializing, Running, Waiting, Ended}
use Rattle.machine_laws.specs.declared.refusal.CallRefusal.{CallRefusal}
use Rattle.machine_laws.specs.declared.refusal.Unlawful.{Unlawful}
use Rattle.machine_laws.specs.declared.refusal.Unlawful.TheVariants.{StrangeNumber, Refused, NotAsked}
use Rattle.machine_laws.specs.Plan.{Plan, Call}
use Rattle.machine_laws.specs.Machine.{Member, State, member_at, cut_in, holder_in, by_phase, limit_refusal, make_refusal, end_refusal, if_known, if_refused, refusal_of}
use Rattle.machine_laws.specs.Machine.Step.{grant}

-- what is None after a map was None before
pub none_mapped : {A B : Type 0} (g : A → B) (o : Option A) → option_map g o ≡ None → o ≡ None
none_mapped g None none = refl
none_mapped g (Some x) none = cc

-- a step that isn't refused is of a federate of the plan
pub known : (s : State) (f : ℕ) (r : Option Unlawful) → if_known s f r ≡ None → (f < length s.members) × (r ≡ None)
known s f r lawful = by_test (nat_lt f (length s.members)) refl lawful
  where
    by_test : (b : Bool) → nat_lt f (length s.members) ≡ b → (if b then r else Some StrangeNumber) ≡ None → (f < length s.members) × (r ≡ None)
    by_test true is none = (ltb-true f (length s.members) is, none)
    by_test false is none = cc

-- and so is a call
pub accepted : (s : State) (f : ℕ) (r : Option CallRefusal) → if_refused s f r ≡ None → (f < length s.members) × (r ≡ None)
accepted s f r lawful = let k = known s f (option_map Refused r) lawful in (k.0, none_mapped Refused r k.1)

-- the number of a federate of the plan refuses nothing
pub known_is : (s : State) (f : ℕ) (r : Option Unlawful) → f < length s.members → if_known s f r ≡ r
known_is s f r within = ap (λ (b : Bool). if b then r else Some StrangeNumber) (lt-ltb f (length s.members) within)

-- a federate that may fail or die lives
pub lives : (q : Phase) → end_refusal q ≡ None → is_live q ≡ true
lives (Ended c) none = cc
lives phase none = refl

-- an accepted call of a kind that has its place in these two phases is in one of them
pub calling : (q : Phase) (more : Option CallRefusal) → by_phase q more ≡ None → ((q ≡ Initializing) ⊎ (q ≡ Running)) × (more ≡ None)
calling Initializing more none = (inl refl, none)
calling Running more none = (inr refl, none)
calling phase more none = cc

-- what a federate is that may send
pub record MaySend (fed : Fed) : Type 0 where
  pub phase : (fed.phase ≡ Initializing) ⊎ (fed.phase ≡ Running)
  pub time : fed.last.time < horizon
  pub micro : fed.last.micro < 2 ^ 62

-- an accepted call that sends is of such a federate
pub may_send : (p : Plan) (f : ℕ) (m : Member) (call : Call) → IsFed m.time → make_refusal p f m call ≡ None → MaySend m.time
may_send p f m call fed none =
    let c = calling m.time.phase (option_or (p.objects f call) (limit_refusal m)) none in
    let l = second (p.objects f call) (limit_refusal m) c.1 in
    let lawful = fed.time in
    record { phase = c.0; time = grind (arith, nat_tests); micro = grind (arith, nat_tests) }
  where
    second : (a b : Option CallRefusal) → option_or a b ≡ None → b ≡ None
    second None b none = none
    second (Some x) b none = cc

-- it doesn't wait
pub not_waiting : (q : Phase) → (q ≡ Initializing) ⊎ (q ≡ Running) → q ≡ Waiting → ⊥
not_waiting q (inl first) waits = cc
not_waiting q (inr runs) waits = cc

-- and its event is its own stamp
pub own_event : (fed : Fed) (dues : List At) → IsFed fed → MaySend fed → event_of fed dues ≡ fed.last
own_event fed dues is may = elim may.phase [
  | inl first ↦ rw first (sym (is.first (rw first refl)))
  | inr runs ↦ rw runs refl
]

-- what a lawful grant tells
pub record MayGrant (p : Plan) (s : State) (f : ℕ) : Type 0 where
  pub within : f < length s.members
  pub asks : is_asking (member_at s f).time.phase ≡ true
  pub none : holder_in p s (cut_in s f) (p.ancestors f) ≡ None

-- a grant that isn't refused tells it
pub may_grant : (p : Plan) (s : State) (f : ℕ) → refusal_of p s (grant f) ≡ None → MayGrant p s f
may_grant p s f lawful =
    let k = known s f _ lawful in
    let a = by_test (is_asking (member_at s f).time.phase) (holder_in p s (cut_in s f) (p.ancestors f)) k.1 in
    record { within = k.0; asks = a.0; none = a.1 }
  where
    by_test : (b : Bool) (r : Option Unlawful) → (if b then r else Some NotAsked) ≡ None → (b ≡ true) × (r ≡ None)
    by_test true r none = (refl, none)
    by_test false r none = cc

-- and one of which it holds isn't refused
pub grant_lawful : (p : Plan) (s : State) (f : ℕ) → MayGrant p s f → refusal_of p s (grant f) ≡ None
grant_lawful p s f may =
    known_is s f _ may.within
    ∙ ap (λ (b : Bool). if b then holder_in p s (cut_in s f) (p.ancestors f) else Some NotAsked) may.asks ∙ may.none
