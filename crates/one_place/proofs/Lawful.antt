-- What a lawful step tells of its federate.
use Rattle.std.proofs.Common.{◌≡◌, ◌<◌, ◌+◌, Bool, true, false, drop, sym, ◌∙◌, ap, add-one, ℕ, zero, suc, List, [], ◌∷◌, length, Option, Some, None, arith, refl, inl, inr, subst}
use Rattle.std.specs.Prelude.{slice_get, slice_index_or, option_map, is_none, nat_lt, not, if◌then◌else◌}
use Rattle.std.specs.Option.{option_or}
use Rattle.hel_lists.specs.Members.{IsIn, Each}
use Rattle.hel_values.specs.declared.EndRef.{EndRef}
use Rattle.hel_values.specs.declared.Value.{Value}
use Rattle.time_state.specs.declared.Phase.{Phase}
use Rattle.time_state.specs.declared.Phase.TheVariants.{Created, Initializing, Entering, Running, Waiting, Ended}
use Rattle.machine_laws.specs.declared.refusal.CallRefusal.{CallRefusal}
use Rattle.machine_laws.specs.Plan.Call.{publish, send}
use Rattle.machine_laws.specs.Machine.{State, Step, member_at, event_in, cut_in, holder_in, limit_refusal, by_phase, if_known, grant_refusal, failed_or_died, items_in, refusal_of}
use Rattle.machine_laws.specs.Machine.Step.{begin, enter, make, request, grant, finish, fail, die, halt}
use Rattle.machine_laws.specs.Plan.{Call, Leg, Plan, item_of, legs_of}
use Rattle.machine_laws.specs.declared.refusal.Unlawful.{Unlawful}
use Rattle.machine_laws.specs.declared.refusal.Unlawful.TheVariants.{BegunTwice, StrangeNumber, Refused, NotAsked, Early, NothingFailed, OutOfMemory}
use Rattle.helics_time.specs.Stamp.{At, before}
use Rattle.time_state.specs.Fed.{is_asking}
use Rattle.machine_laws.proofs.Accepted.{accepted, calling}
use Rattle.interface_names.specs.declared.records.EndRecord.{EndRecord}
use Rattle.interface_names.specs.declared.records.FederateRecord.{FederateRecord}
use Rattle.interface_names.specs.declared.records.PubRecord.{PubRecord}
use Rattle.due_queue.specs.Item.{Parcel}
use Rattle.hel_lists.proofs.Members.{in_map, map_in}
use Rattle.std.proofs.lemmas.Bool.{cases_Bool, cases_lt}
use Rattle.std.proofs.lemmas.List.{get_or_past}
use Rattle.federation_plan.specs.Interfaces.{IsEndpoint, IsPublication, federate_at, endpoint_at}
use Rattle.federation_plan.specs.Chains.{filtered_at, may_send}
use Rattle.message_filters.specs.declared.chain.Filtered.{Filtered}
use Rattle.federation_plan.specs.Plan.{Federation, IsFederation, targets_of}
use Rattle.federation_plan.specs.Wires.{destined, endpoint_in, kind_objection, leg_to, message_by, message_leg, message_to, objection, send_objection, target_objection, wires_of}
use Rattle.federation_plan.proofs.Wired.{plans_are}
use Rattle.one_place.specs.Members.{AreMade}
use Rattle.one_place.specs.Machine.{Stage, IsStage}

both_none : (a b : Option CallRefusal) → option_or a b ≡ None → (a ≡ None) × (b ≡ None)
both_none None b none = (refl, none)
both_none (Some x) b none = cc

-- a publication to which nothing is objected is there, and so is an endpoint
there : (xs : List PubRecord) (i : ℕ) (value : Value) → kind_objection (slice_get xs i) value ≡ None → i < length xs
there [] i value none = cc
there (x ∷ xs) zero value none = omega arith
there (x ∷ xs) (suc i) value none = let less = there xs i value none in omega (arith, less)

end_there : (feds : List FederateRecord) (from : EndRef) (name : List ℕ) (xs : List EndRecord) (i : ℕ) → send_objection feds from (slice_get xs i) name ≡ None → i < length xs
end_there feds from name [] i none = cc
end_there feds from name (x ∷ xs) zero none = omega arith
end_there feds from name (x ∷ xs) (suc i) none = let less = end_there feds from name xs i none in omega (arith, less)

-- a lawful publish is of a publication of its federate, below the limits
pub record IsPublishing (s : Stage) (f index : ℕ) : Type 0 where
  pub known : f < length s.state.members
  pub planned : f < length s.plan.federates
  pub publication : IsPublication s.plan.federates (record { fed = f; index = index })
  pub limits : limit_refusal (member_at s.state f) ≡ None

pub publishing : (s : Stage) (f index : ℕ) (value : Value) → IsStage s → refusal_of (wires_of s.plan) s.state (make f (publish index value)) ≡ None → IsPublishing s f index
publishing s f index value stage lawful =
    let known = accepted s.state f _ lawful in
    let call = calling (member_at s.state f).time.phase _ known.1 in
    let none = both_none (objection s.plan.federates f (publish index value)) (limit_refusal (member_at s.state f)) call.1 in
    let each = stage.each in
    record {
      known = known.0;
      planned = (let within = known.0 in omega (arith, within, each));
      publication = there (federate_at s.plan.federates f).publications index value none.0;
      limits = none.1;
    }

-- a lawful send is from an endpoint of its federate to where it may send, below the limits
pub record IsSending (s : Stage) (f index : ℕ) (name : List ℕ) : Type 0 where
  pub known : f < length s.state.members
  pub planned : f < length s.plan.federates
  pub endpoint : IsEndpoint s.plan.federates (record { fed = f; index = index })
  pub may : send_objection s.plan.federates (record { fed = f; index = index }) (endpoint_in s.plan.federates f index) name ≡ None
  pub limits : limit_refusal (member_at s.state f) ≡ None

pub sending : (s : Stage) (f index : ℕ) (name payload : List ℕ) → IsStage s → refusal_of (wires_of s.plan) s.state (make f (send index name payload)) ≡ None → IsSending s f index name
sending s f index name payload stage lawful =
    let known = accepted s.state f _ lawful in
    let call = calling (member_at s.state f).time.phase _ known.1 in
    let none = both_none (objection s.plan.federates f (send index name payload)) (limit_refusal (member_at s.state f)) call.1 in
    let each = stage.each in
    record {
      known = known.0;
      planned = (let within = known.0 in omega (arith, within, each));
      endpoint = end_there s.plan.federates (record { fed = f; index = index }) name (federate_at s.plan.federates f).endpoints index none.0;
      may = none.0;
      limits = none.1;
    }

got : {A : Type 0} (xs : List A) (i : ℕ) (d : A) → i < length xs → slice_get xs i ≡ Some (slice_index_or xs i d)
got [] i d within = absurd (omega arith)
got (x ∷ xs) zero d within = refl
got (x ∷ xs) (suc i) d within = got xs i d (omega arith)

-- a send to which nothing is objected makes of its message what the filters leave
pub sent_leg : (feds : List FederateRecord) (from to : EndRef) (seq : ℕ) (name payload : List ℕ) (left : Filtered) → IsEndpoint feds from →
    send_objection feds from (endpoint_in feds from.fed from.index) name ≡ None → destined feds (endpoint_at feds from).item name ≡ Some to → filtered_at feds from seq to ≡ left →
    message_by feds from (endpoint_in feds from.fed from.index) seq name payload ≡ message_leg feds from to payload left
sent_leg feds from to seq name payload left is may means filters =
    let item : EndRecord = (endpoint_at feds from).item in
    let there : endpoint_in feds from.fed from.index ≡ Some item = got (federate_at feds from.fed).endpoints from.index _ is in
    let none : target_objection feds from (Some to) ≡ None =
    ap (target_objection feds from) (sym means) ∙ ap (λ (o : Option EndRecord). send_objection feds from o name) (sym there) ∙ may in
    let allowed : may_send feds from to ≡ true = elim (cases_Bool (may_send feds from to)) [ inl allows ↦ allows | inr forbids ↦ let some = rw forbids at none in cc ] in
    ap (λ (o : Option EndRecord). message_by feds from o seq name payload) there ∙ ap (message_to feds from seq payload) means
    ∙ ap (λ (b : Bool). if b then message_leg feds from to payload (filtered_at feds from seq to) else None) allowed ∙ ap (message_leg feds from to payload) filters

-- what a federate of the plan sends is for one of the plan
leg_known : (p : Federation) (a seq : ℕ) (call : Call) (leg : Leg) → IsFederation p → a < length p.federates → IsIn leg (legs_of (wires_of p) a seq call) → leg.target < length p.federates
leg_known p a seq call leg is within among = elim ((plans_are p is).targets a seq call leg among) [
  | inl own ↦ omega (arith, own, within)
  | inr ancestor ↦
      let rows : length p.ancestors ≡ length p.federates = is.closed.one_each in
      elim (cases_lt leg.target (length p.ancestors)) [
        | inl less ↦ omega (arith, less, rows)
        | inr over ↦ absurd (subst (λ (row : List ℕ). IsIn a row) (get_or_past p.ancestors leg.target [] over) ancestor)
      ]
]

pub items_known : (s : Stage) (f : ℕ) (call : Call) → IsStage s → f < length s.state.members →
    AreMade (length s.state.members) f (member_at s.state f).seq (items_in (wires_of s.plan) s.state f call)
items_known s f call stage within i among =
    let m = member_at s.state f in
    let made = in_map (item_of m.time f m.seq) (legs_of (wires_of s.plan) f m.seq call) i among in
    let each : length s.state.members ≡ length s.plan.federates = stage.each in
    let to : i.target ≡ made.0.target = ap (λ (x : Parcel). x.target) made.2 in
    let known : made.0.target < length s.plan.federates = leg_known s.plan f m.seq call made.0 stage.plan (omega (arith, within, each)) made.1 in
    (omega (arith, to, known, each), ap (λ (x : Parcel). x.source) made.2, ap (λ (x : Parcel). x.seq) made.2)

-- and so is each input that targets a publication
pub inputs_known : (p : Federation) (publication : EndRef) (value : Value) → IsFederation p → publication.fed < length p.federates →
    Each (λ e. e.fed < length p.federates) (targets_of p.federates publication)
inputs_known p publication value is within e among =
    leg_known p publication.fed 0 (publish publication.index value) (leg_to p.federates publication value e) is within
    (map_in (leg_to p.federates publication value) (targets_of p.federates publication) e among)

-- a call's phase comes first
pub phase_first : (q : Phase) (a b : Option CallRefusal) → option_or (option_or (by_phase q None) a) b ≡ by_phase q (option_or a b)
phase_first Created a b = refl
phase_first Initializing a b = refl
phase_first Entering a b = refl
phase_first Running a b = refl
phase_first Waiting a b = refl
phase_first (Ended cause) a b = refl

-- an ancestor that can't hold a grant is passed over
pub holder_next : (p : Plan) (s : State) (cut : At) (ancestors : List ℕ) (i : ℕ) → i < length ancestors →
    before cut (p.first (slice_index_or ancestors i 0) (event_in s (slice_index_or ancestors i 0))) ≡ true → holder_in p s cut (drop i ancestors) ≡ holder_in p s cut (drop (i + 1) ancestors)
holder_next p s cut [] i within passes = absurd (omega arith)
holder_next p s cut (a ∷ more) zero within passes = rw passes refl
holder_next p s cut (a ∷ more) (suc i) within passes =
    holder_next p s cut more i (omega arith) passes ∙ ap (λ k. holder_in p s cut (drop k more)) (add-one i) ∙ ap (λ k. holder_in p s cut (drop k (a ∷ more))) (sym (add-one (suc i)))

-- and the first that can is named
pub holder_found : (p : Plan) (s : State) (cut : At) (ancestors : List ℕ) (i : ℕ) → i < length ancestors →
    before cut (p.first (slice_index_or ancestors i 0) (event_in s (slice_index_or ancestors i 0))) ≡ false →
    holder_in p s cut (drop i ancestors) ≡ Some (Early (slice_index_or ancestors i 0) (event_in s (slice_index_or ancestors i 0)))
holder_found p s cut [] i within holds = absurd (omega arith)
holder_found p s cut (a ∷ more) zero within holds = rw holds refl
holder_found p s cut (a ∷ more) (suc i) within holds = holder_found p s cut more i (omega arith) holds

pub not_true : (b : Bool) → not b ≡ true → b ≡ false
not_true true is = sym is
not_true false is = refl

-- where one of them can, the grant is held
pub held_there : (p : Plan) (s : State) (cut : At) (ancestors : List ℕ) (i : ℕ) → i < length ancestors →
    before cut (p.first (slice_index_or ancestors i 0) (event_in s (slice_index_or ancestors i 0))) ≡ false → is_none (holder_in p s cut ancestors) ≡ false
held_there p s cut [] i within holds = absurd (omega arith)
held_there p s cut (a ∷ more) zero within holds = rw holds refl
held_there p s cut (a ∷ more) (suc i) within holds = passed (before cut (p.first a (event_in s a))) (held_there p s cut more i (omega arith) holds)
  where
    passed : (b : Bool) → is_none (holder_in p s cut more) ≡ false → is_none (if b then holder_in p s cut more else Some (Early a (event_in s a))) ≡ false
    passed true held = held
    passed false held = refl

-- want of memory is no condition of a step
abbrev IsCondition : Option Unlawful → Type 0
IsCondition r = r ≡ Some OutOfMemory → ⊥

if_tests : (b : Bool) (r q : Option Unlawful) → IsCondition r → IsCondition q → IsCondition (if b then r else q)
if_tests true r q one two = one
if_tests false r q one two = two

call_condition : (r : Option CallRefusal) → IsCondition (option_map Refused r)
call_condition None = λ is. cc
call_condition (Some e) = λ is. cc

known_condition : (s : State) (f : ℕ) (r : Option Unlawful) → IsCondition r → IsCondition (if_known s f r)
known_condition s f r one = if_tests (nat_lt f (length s.members)) r (Some StrangeNumber) one (λ is. cc)

holder_condition : (p : Plan) (s : State) (cut : At) (ancestors : List ℕ) → IsCondition (holder_in p s cut ancestors)
holder_condition p s cut [] = λ is. cc
holder_condition p s cut (a ∷ more) = if_tests (before cut (p.first a (event_in s a))) (holder_in p s cut more) (Some (Early a (event_in s a))) (holder_condition p s cut more) (λ is. cc)

pub step_condition : (p : Plan) (s : State) (step : Step) → refusal_of p s step ≡ Some OutOfMemory → ⊥
step_condition p s begin = if_tests s.begun (Some BegunTwice) None (λ is. cc) (λ is. cc)
step_condition p s (enter f) = known_condition s f _ (call_condition _)
step_condition p s (make f call) = known_condition s f _ (call_condition _)
step_condition p s (request f time mode) = known_condition s f _ (call_condition _)
step_condition p s (grant f) =
    known_condition s f (grant_refusal p s f)
    (if_tests (is_asking (member_at s f).time.phase) (holder_in p s (cut_in s f) (p.ancestors f)) (Some NotAsked) (holder_condition p s (cut_in s f) (p.ancestors f)) (λ is. cc))
step_condition p s (finish f) = known_condition s f _ (call_condition _)
step_condition p s (fail f text) = known_condition s f _ (call_condition _)
step_condition p s (die f) = known_condition s f _ (call_condition _)
step_condition p s (halt core f) =
    if_tests (p.is_core core) (if_known s f (if failed_or_died (member_at s f).time.phase then None else Some NothingFailed)) (Some StrangeNumber)
    (known_condition s f (if failed_or_died (member_at s f).time.phase then None else Some NothingFailed)
    (if_tests (failed_or_died (member_at s f).time.phase) None (Some NothingFailed) (λ is. cc) (λ is. cc)))
    (λ is. cc)
