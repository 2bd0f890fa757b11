-- The items that an accepted call puts in.
use Rattle.std.proofs.Common.{◌≡◌, ◌≢◌, ◌⊎◌, inl, inr, ℕ, ◌^◌, ◌<◌, ◌≤◌, arith, sym, ◌∙◌, ap, subst, length, None}
use Rattle.std.proofs.lemmas.Bool.{cases_eq}
use Rattle.std.proofs.lemmas.Bool.Decides.{nat_tests}
use Rattle.helics_time.specs.Stamp.{At, IsStamp, IsDue, rank}
use Rattle.helics_time.proofs.Ranks.{next_more}
use Rattle.hel_lists.specs.Members.{IsIn}
use Rattle.hel_lists.proofs.Members.{in_map}
use Rattle.due_queue.specs.Item.{Parcel}
use Rattle.time_state.specs.Fed.{Fed, IsFed, item_stamp}
use Rattle.time_state.specs.declared.Phase.TheVariants.{Waiting}
use Rattle.time_state.proofs.Stamps.{due_below}
use Rattle.machine_laws.specs.Plan.{Plan, IsPlan, Leg, Call, legs_of, due_of, item_of}
use Rattle.machine_laws.specs.Machine.{State, member_at, dues_to, event_in, items_in, refusal_of}
use Rattle.machine_laws.specs.Machine.Step.{make}
use Rattle.machine_laws.specs.Laws.{Keeps}
use Rattle.machine_laws.proofs.Accepted.{MaySend, may_send, own_event, not_waiting, accepted}
use Rattle.machine_laws.proofs.Cuts.{item_event, first_above}

-- what is known of a federate that makes a call
pub record Sender (p : Plan) (s : State) (f : ℕ) : Type 0 where
  pub within : f < length s.members
  pub may : MaySend (member_at s f).time
  pub own : event_in s f ≡ (member_at s f).time.last

-- an accepted call is of such a federate
pub sender_of : (p : Plan) (s : State) (f : ℕ) (call : Call) → Keeps p s → refusal_of p s (make f call) ≡ None → Sender p s f
sender_of p s f call keeps lawful =
    let k = accepted s f _ lawful in
    let may = may_send p f (member_at s f) call (keeps.feds f) k.1 in
    record { within = k.0; may = may; own = own_event (member_at s f).time (dues_to s.items f) (keeps.feds f) may }

-- and of an item that the call puts in
pub record New (p : Plan) (s : State) (f : ℕ) (call : Call) (i : Parcel) : Type 0 where
  pub leg : Leg
  pub among : IsIn leg (legs_of p f (member_at s f).seq call)
  pub is : i ≡ item_of (member_at s f).time f (member_at s f).seq leg

-- an item of the call is such an item
pub new_is : (p : Plan) (s : State) (f : ℕ) (call : Call) (i : Parcel) → IsIn i (items_in p s f call) → New p s f call i
new_is p s f call i among =
    let m = in_map (item_of (member_at s f).time f (member_at s f).seq) (legs_of p f (member_at s f).seq call) i among in
    record { leg = m.0; among = m.1; is = m.2 }

-- the last cut of a federate that may send is at its own time
cut_near : (fed : Fed) → IsFed fed → MaySend fed → (fed.last_cut.time ≡ fed.last.time) × (fed.last_cut.micro ≤ 2 ^ 62)
cut_near fed is may = let low = is.cut_low in let high = is.cut_high in let small = is.cut_is.micro in let micro = may.micro in (omega arith, omega arith)

-- the due of what it sends is a due
due_is : (fed : Fed) (f : ℕ) (leg : Leg) → IsFed fed → MaySend fed → leg.delay < 2 ^ 61 → IsDue (due_of fed f leg)
due_is fed f leg is may short = let near = cut_near fed is may in record { time = grind (arith, nat_tests); micro = grind (arith, nat_tests) }

-- what it sends to itself is due above its last cut
due_self : (fed : Fed) (f : ℕ) (leg : Leg) → IsFed fed → MaySend fed → leg.target ≡ f → rank fed.last_cut < rank (due_of fed f leg)
due_self fed f leg is may self = let near = cut_near fed is may in grind (arith, nat_tests)

-- so the due of an item is one
pub new_due : (p : Plan) (s : State) (f : ℕ) (call : Call) (i : Parcel) → IsPlan p → Keeps p s → Sender p s f → New p s f call i → IsDue i.due
new_due p s f call i plan keeps sender new =
    subst (λ (j : Parcel). IsDue j.due) (sym new.is)
    (due_is (member_at s f).time f new.leg (keeps.feds f) sender.may (plan.delays f (member_at s f).seq call new.leg new.among))

-- an item is for the sender, or for one that depends on it
pub new_source : (p : Plan) (s : State) (f : ℕ) (call : Call) (i : Parcel) → IsPlan p → New p s f call i → (i.target ≡ f) ⊎ IsIn f (p.ancestors i.target)
new_source p s f call i plan new =
    let to : i.target ≡ new.leg.target = ap (λ (j : Parcel). j.target) new.is in
    elim (plan.targets f (member_at s f).seq call new.leg new.among) [
      | inl self ↦ inl (to ∙ self)
      | inr anc ↦ inr (subst (λ (k : ℕ). IsIn f (p.ancestors k)) (sym to) anc)
    ]

-- an item to another isn't due before `first` of its sender
pub sent_after : (p : Plan) (s : State) (f : ℕ) (call : Call) (i : Parcel) → IsPlan p → Sender p s f → New p s f call i → i.target ≢ f → rank (p.first f (event_in s f)) ≤ rank i.due
sent_after p s f call i plan sender new other =
    let may = sender.may in
    let leg : Leg = new.leg in
    let sent = plan.sent f (member_at s f).seq call leg (member_at s f).time new.among (λ e. other (ap (λ (j : Parcel). j.target) new.is ∙ e)) may.time may.micro in
    let own : rank (p.first f (event_in s f)) ≡ rank (p.first f (member_at s f).time.last) = ap (λ (x : At). rank (p.first f x)) sender.own in
    let due : rank i.due ≡ rank (due_of (member_at s f).time f leg) = ap (λ (j : Parcel). rank j.due) new.is in
    omega (arith, sent, own, due)

-- each item is due above the last cut of its target
pub new_late : (p : Plan) (s : State) (f : ℕ) (call : Call) (i : Parcel) → IsPlan p → Keeps p s → Sender p s f → New p s f call i → rank (member_at s i.target).time.last_cut < rank i.due
new_late p s f call i plan keeps sender new = elim (cases_eq i.target f) [
  | inl self ↦
      let leg : Leg = new.leg in
      let to : leg.target ≡ f = sym (ap (λ (j : Parcel). j.target) new.is) ∙ self in
      let above = due_self (member_at s f).time f leg (keeps.feds f) sender.may to in
      let cut : rank (member_at s i.target).time.last_cut ≡ rank (member_at s f).time.last_cut = ap (λ (k : ℕ). rank (member_at s k).time.last_cut) self in
      let due : rank i.due ≡ rank (due_of (member_at s f).time f leg) = ap (λ (j : Parcel). rank j.due) new.is in
      omega (arith, above, cut, due)
  | inr other ↦ elim (new_source p s f call i plan new) [
    | inl self ↦ absurd (other self)
    | inr anc ↦
        let before = keeps.safe i.target f anc in
        let sent = sent_after p s f call i plan sender new other in
        omega (arith, before, sent)
  ]
]

-- the sender's `first` isn't below its own last cut
first_own : (p : Plan) (s : State) (f : ℕ) → IsPlan p → Keeps p s → Sender p s f → rank (member_at s f).time.last_cut ≤ rank (p.first f (event_in s f))
first_own p s f plan keeps sender =
    let own : At = (member_at s f).time.last in
    let time = sender.may.time in
    let micro = sender.may.micro in
    let is : IsStamp own = (omega arith, omega arith) in
    let above = plan.above f own is in
    let next = next_more own is in
    let high = (keeps.feds f).cut_high in
    let event : rank (p.first f (event_in s f)) ≡ rank (p.first f own) = ap (λ (y : At). rank (p.first f y)) sender.own in
    omega (arith, time, micro, above, next, high, event)

-- at the stamp of an item, an ancestor of x that waits for it can send nothing that is due by the last cut of x
pub new_safe : (p : Plan) (s : State) (f : ℕ) (call : Call) (i : Parcel) (x : ℕ) → IsPlan p → Keeps p s → Sender p s f → New p s f call i → IsIn i.target (p.ancestors x) →
    (member_at s i.target).time.phase ≡ Waiting → rank (member_at s x).time.last_cut < rank (p.first i.target (item_stamp (member_at s i.target).time i.due))
new_safe p s f call i x plan keeps sender new anc waits =
    let fed : Fed = (member_at s i.target).time in
    let is = keeps.feds i.target in
    let due = new_due p s f call i plan keeps sender new in
    let low = due_below fed i.due is waits due in
    let above = first_above p i.target (item_stamp fed i.due) plan (item_event fed i.due is waits due) in
    let sent = sent_after p s f call i plan sender new other in
    elim (cases_eq x f) [
      | inl same ↦
          let own = first_own p s f plan keeps sender in
          let cut : rank (member_at s x).time.last_cut ≡ rank (member_at s f).time.last_cut = ap (λ (k : ℕ). rank (member_at s k).time.last_cut) same in
          omega (arith, low, above, sent, own, cut)
      | inr differs ↦ elim (new_source p s f call i plan new) [
        | inl self ↦ absurd (other self)
        | inr source ↦
            let before = keeps.safe x f (plan.closed f i.target x source anc (λ e. differs (sym e))) in
            omega (arith, low, above, sent, before)
      ]
    ]
  where
    -- a federate that waits makes no call
    other : i.target ≢ f
    other self = not_waiting (member_at s f).time.phase sender.may.phase (subst (λ (k : ℕ). (member_at s k).time.phase ≡ Waiting) self waits)
