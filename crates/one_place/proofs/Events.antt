-- The event that a clock keeps, and what keeps its federate's facts.
use Rattle.std.proofs.Common.{◌≡◌, ◌≤◌, ◌<◌, ◌+◌, ◌^◌, ℕ, true, inl, arith, refl, sym, ◌∙◌, ap, subst, List, [], ◌∷◌, Option, None}
use Rattle.std.specs.Prelude.{IfSome, nat_le}
use Rattle.std.specs.Option.{option_to_list}
use Rattle.std.proofs.lemmas.Bool.Decides.{nat_tests}
use Rattle.hel_lists.specs.Members.{IsIn, Each}
use Rattle.hel_lists.proofs.Members.{in_map}
use Rattle.helics_time.specs.Time.{horizon}
use Rattle.helics_time.specs.Stamp.{At, IsDue, at_most, next_of, rank}
use Rattle.helics_time.proofs.Ranks.{most_of}
use Rattle.due_queue.specs.Item.{Parcel}
use Rattle.due_queue.specs.Queue.{first_due}
use Rattle.time_state.specs.Fed.{Fed, IsFed, IsStep, IsEvent, event_of, granted, ended, is_asking, is_live}
use Rattle.time_state.specs.declared.Cause.{Cause}
use Rattle.time_state.proofs.Least.{least_decides}
use Rattle.time_state.proofs.Turns.{end_stands}
use Rattle.time_state.proofs.Grants.{grant_stands, grant_steps}
use Rattle.machine_laws.specs.Machine.{limit_refusal}
use Rattle.one_place.specs.Members.{dues_of, sender_of}

-- where the items are items, so are their dues
dues_are : (queue : List Parcel) → Each (λ i. IsDue i.due) queue → Each IsDue (dues_of queue)
dues_are queue due d among = let m = in_map (λ (i : Parcel). i.due) queue d among in subst IsDue (sym m.2) (due m.0 m.1)

-- the least of dues is that of the least rank
least_rank : (queue : List Parcel) (due : At) → IsDue due → Each (λ i. IsDue i.due) queue → Each (λ i. at_most due i.due ≡ true) queue → (e : At) → IsIn e (dues_of queue) → rank due ≤ rank e
least_rank queue due is_due dues least e among =
    let m = in_map (λ (i : Parcel). i.due) queue e among in
    let d : IsDue m.0.due = dues m.0 m.1 in
    let test : at_most due m.0.due ≡ nat_le (rank due) (rank m.0.due) = most_of due m.0.due (omega (arith, is_due.time), omega (arith, is_due.micro)) (omega (arith, d.time), omega (arith, d.micro)) in
    let below : nat_le (rank due) (rank m.0.due) ≡ true = sym test ∙ least m.0 m.1 in
    let over : rank due ≤ rank m.0.due = grind (arith, nat_tests) in
    subst (λ (s : At). rank due ≤ rank s) (sym m.2) over

-- the due of the first of a queue decides
pub first_decides : (f : Fed) (queue : List Parcel) (least : Option At) → IsFed f → Each (λ i. IsDue i.due) queue → least ≡ first_due queue →
    IfSome least (λ due. Each (λ i. at_most due i.due ≡ true) queue) → event_of f (option_to_list least) ≡ event_of f (dues_of queue)
first_decides f [] least fed dues is most = ap (λ (o : Option At). event_of f (option_to_list o)) is
first_decides f (i ∷ queue) least fed dues is most =
    let each = subst (λ (o : Option At). IfSome o (λ due. Each (λ (j : Parcel). at_most due j.due ≡ true) (i ∷ queue))) is most in
    ap (λ (o : Option At). event_of f (option_to_list o)) is
    ∙ sym (least_decides f (dues_of (i ∷ queue)) i.due fed (dues_are (i ∷ queue) dues) (inl refl) (least_rank (i ∷ queue) i.due (dues i (inl refl)) dues each))

-- the next stamp of a small one is the next micro step
next_by : (s : At) → s.micro < 2 ^ 62 + 2 → next_of s ≡ record { time = s.time; micro = s.micro + 1 }
next_by s small = grind (arith, nat_tests)

-- a stamp between a small one and the next
cut_bounds : (last cut : At) → cut.micro ≤ 2 ^ 63 → last.micro < 2 ^ 62 → rank last ≤ rank cut → rank cut ≤ rank last + 1 → (cut.time ≤ last.time) × (cut.micro ≤ 2 ^ 62)
cut_bounds last cut range small low high = (omega arith, omega arith)

pub ended_stands : (f : Fed) (c : Cause) → IsFed f → is_live f.phase ≡ true → IsFed (ended f c [])
ended_stands f c fed live = end_stands f c [] fed (λ d none. absurd none) live

pub granted_stands : (f : Fed) (queue : List Parcel) → IsFed f → Each (λ i. IsDue i.due) queue → is_asking f.phase ≡ true → IsFed (granted f (dues_of queue))
granted_stands f queue fed dues asks = grant_stands f (dues_of queue) fed (dues_are queue dues) asks

-- a grant goes to a step
pub grant_step : (f : Fed) (queue : List Parcel) → IsFed f → Each (λ i. IsDue i.due) queue → is_asking f.phase ≡ true → IsStep f (event_of f (dues_of queue))
grant_step f queue fed dues asks = grant_steps f (dues_of queue) fed (dues_are queue dues) asks

-- the dues of what a federate sends are dues that items may have
pub sent_due : (f : Fed) → IsFed f → f.last.time < horizon → f.last.micro < 2 ^ 62 → IsDue (next_of f.last)
sent_due f fed low small = let next = next_by f.last (omega (arith, small)) in subst IsDue (sym next) (record { time = omega arith; micro = omega arith })

pub own_due : (f : Fed) → IsFed f → f.last.time < horizon → f.last.micro < 2 ^ 62 → IsDue (next_of f.last_cut)
own_due f fed low small =
    let cut : IsEvent f.last_cut = fed.cut_is in
    let high : rank f.last_cut ≤ rank f.last + 1 = fed.cut_high in
    let bounds = cut_bounds f.last f.last_cut cut.micro small fed.cut_low high in
    let next = next_by f.last_cut (omega (arith, bounds.1)) in
    subst IsDue (sym next) (record { time = omega (arith, bounds.0); micro = omega (arith, bounds.1) })

-- a federate that may send is below the limits
pub sends_low : (f : Fed) (seq : ℕ) → IsFed f → limit_refusal (sender_of f seq) ≡ None → f.last.time < horizon
sends_low f seq fed none = let lawful = fed.time in grind (arith, nat_tests)

pub sends_small : (f : Fed) (seq : ℕ) → limit_refusal (sender_of f seq) ≡ None → f.last.micro < 2 ^ 62
sends_small f seq none = grind (arith, nat_tests)

pub sends_few : (f : Fed) (seq : ℕ) → limit_refusal (sender_of f seq) ≡ None → seq < 2 ^ 32
sends_few f seq none = grind (arith, nat_tests)
