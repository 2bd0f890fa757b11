-- What a grant does depends on its member, its event and the items, so grants of two federates commute.
use Rattle.std.proofs.Common.{◌≡◌, ◌≢◌, inl, inr, ℕ, ◌+◌, ◌<◌, arith, refl, sym, ◌∙◌, ap, List, [], ◌∷◌, ◌++◌, length, None, Option, Some}
use Rattle.std.specs.Prelude.{if◌then◌else◌, not}
use Rattle.std.specs.List.{filter}
use Rattle.std.proofs.lemmas.List.{length-set}
use Rattle.helics_time.specs.Stamp.{At, before}
use Rattle.hel_lists.specs.Members.{Each}
use Rattle.hel_lists.proofs.Members.{filter_within, filter_commutes}
use Rattle.due_queue.specs.Item.{Parcel}
use Rattle.iteration_rules.specs.declared.Kind.TheVariants.{NextStep, Iterating}
use Rattle.time_state.specs.Fed.{event_of, cut_at, is_asking, is_iterating}
use Rattle.time_state.specs.declared.Phase.TheVariants.{Running}
use Rattle.machine_laws.specs.declared.refusal.Unlawful.{Unlawful}
use Rattle.machine_laws.specs.declared.refusal.Unlawful.TheVariants.{Early}
use Rattle.machine_laws.specs.Plan.{Plan}
use Rattle.machine_laws.specs.Machine.{Member, State, member_at, dues_to, event_in, cut_in, is_handed, is_left, left_in, holder_in, refusal_of, with_member, after}
use Rattle.machine_laws.specs.Machine.Step.{grant}
use Rattle.machine_laws.proofs.Accepted.{may_grant, grant_lawful}
use Rattle.machine_laws.proofs.Calls.{Commutes}
use Rattle.machine_laws.proofs.Handed.{not_theirs, handed_target, dues_left}
use Rattle.machine_laws.proofs.Members.{other_member, by_member, members_commute}

-- a member after a grant at e, what is handed over, and what is left
pub granted_at : Member → At → List Parcel → Member
granted_at m e handed =
    record m {
      time = record m.time { phase = Running; last = e; last_cut = cut_at m.time e; count = if is_iterating m.time e then m.time.count + 1 else 0 };
      log = m.log ++ (record { grant = record { time = e.time; micro = e.micro; kind = if is_iterating m.time e then Iterating else NextStep }; items = handed }) ∷ [];
    }

unfoldable pub taken_at : ℕ → Member → At → List Parcel → List Parcel
taken_at g m e items = filter (is_handed g (cut_at m.time e)) items

unfoldable pub left_at : ℕ → Member → At → List Parcel → List Parcel
left_at g m e items = filter (is_left g (cut_at m.time e)) items

-- what a grant does, by these
pub grant_does : (p : Plan) (s : State) (g : ℕ) →
    after p s (grant g) ≡ with_member s g (granted_at (member_at s g) (event_in s g) (taken_at g (member_at s g) (event_in s g) s.items)) (left_at g (member_at s g) (event_in s g) s.items)
unfolding granted_at taken_at left_at
grant_does p s g = refl

-- the same after another's change that leaves the event
pub grant_same : (p : Plan) (s : State) (f g : ℕ) (m : Member) (xs : List Parcel) → f ≢ g → event_in (with_member s f m xs) g ≡ event_in s g →
    after p (with_member s f m xs) (grant g) ≡
    with_member (with_member s f m xs) g (granted_at (member_at s g) (event_in s g) (taken_at g (member_at s g) (event_in s g) xs)) (left_at g (member_at s g) (event_in s g) xs)
grant_same p s f g m xs differs event =
    let t : State = with_member s f m xs in
    grant_does p t g
    ∙ ap (λ (e : At). with_member t g (granted_at (member_at t g) e (taken_at g (member_at t g) e xs)) (left_at g (member_at t g) e xs)) event
    ∙ ap (λ (n : Member). with_member t g (granted_at n (event_in s g) (taken_at g n (event_in s g) xs)) (left_at g n (event_in s g) xs)) (other_member s f g m xs differs)

-- the cut is the same where the member and the event are
pub cut_same : (s t : State) (g : ℕ) → member_at t g ≡ member_at s g → event_in t g ≡ event_in s g → cut_in t g ≡ cut_in s g
cut_same s t g member event = ap (λ (m : Member). cut_at m.time (event_in t g)) member ∙ ap (λ (e : At). cut_at (member_at s g).time e) event

-- after a grant of f every event is as before
event_after : (p : Plan) (s : State) (f x : ℕ) → f < length s.members → event_in (after p s (grant f)) x ≡ event_in s x
event_after p s f x within =
    by_member (λ (m : Member). event_of m.time (dues_to (left_in s f) x) ≡ event_in s x) s f x _ (left_in s f) within
    (λ same. ap (λ (k : ℕ). event_in s k) (sym same))
    (λ other. ap (λ (ds : List At). event_of (member_at s x).time ds) (dues_left s.items f x (cut_in s f) (λ e. other (sym e))))

-- holders are the same over the same events
holder_same : (p : Plan) (s t : State) (c d : At) (some : List ℕ) → c ≡ d → Each (λ a. event_in t a ≡ event_in s a) some → holder_in p t d some ≡ holder_in p s c some
holder_same p s t c d [] cuts events = refl
holder_same p s t c d (a ∷ some) cuts events =
    ap (λ (e : At). if before d (p.first a e) then holder_in p t d some else Some (Early a e)) (events a (inl refl))
    ∙ ap (λ (x : At). if before x (p.first a (event_in s a)) then holder_in p t d some else Some (Early a (event_in s a))) (sym cuts)
    ∙ ap (λ (r : Option Unlawful). if before c (p.first a (event_in s a)) then r else Some (Early a (event_in s a))) (holder_same p s t c d some cuts (λ b among. events b (inr among)))

-- so a grant is lawful after one of another federate
grant_after_grant : (p : Plan) (s : State) (f g : ℕ) → f ≢ g → refusal_of p s (grant f) ≡ None → refusal_of p s (grant g) ≡ None → refusal_of p (after p s (grant f)) (grant g) ≡ None
grant_after_grant p s f g differs first second =
    let before_f = may_grant p s f first in
    let may = may_grant p s g second in
    let t : State = after p s (grant f) in
    let member = other_member s f g _ s.items differs in
    let cuts = cut_same s t g member (event_after p s f g before_f.within) in
    grant_lawful p t g (record {
      within = (let long : length t.members ≡ length s.members = length-set s.members f _ in let within = may.within in omega (arith, long, within));
      asks = ap (λ (m : Member). is_asking m.time.phase) member ∙ may.asks;
      none = holder_same p s t (cut_in s g) (cut_in t g) (p.ancestors g) (sym cuts) (λ a among. event_after p s f a before_f.within) ∙ may.none;
    })

-- what a grant of f takes, a grant of g doesn't
taken_apart : (f g : ℕ) (m n : Member) (e d : At) (items : List Parcel) → f ≢ g → taken_at g n d (left_at f m e items) ≡ taken_at g n d items
unfolding taken_at left_at
taken_apart f g m n e d items differs =
    filter_within (is_handed g (cut_at n.time d)) (is_left f (cut_at m.time e)) items (λ i handed. ap not (not_theirs f (cut_at m.time e) i (λ same. differs (sym same ∙ handed_target g (cut_at n.time d) i handed))))

-- what two grants leave is the same in either order
left_commutes : (f g : ℕ) (m n : Member) (e d : At) (items : List Parcel) → left_at g n d (left_at f m e items) ≡ left_at f m e (left_at g n d items)
unfolding left_at
left_commutes f g m n e d items = filter_commutes (is_left g (cut_at n.time d)) (is_left f (cut_at m.time e)) items

-- two grants, one after the other
two_grants : (p : Plan) (s : State) (f g : ℕ) → f ≢ g → f < length s.members →
    after p (after p s (grant f)) (grant g) ≡
    with_member (with_member s f (granted_at (member_at s f) (event_in s f) (taken_at f (member_at s f) (event_in s f) s.items)) (left_at f (member_at s f) (event_in s f) s.items)) g
    (granted_at (member_at s g) (event_in s g) (taken_at g (member_at s g) (event_in s g) s.items))
    (left_at g (member_at s g) (event_in s g) (left_at f (member_at s f) (event_in s f) s.items))
two_grants p s f g differs within =
    let m : Member = member_at s f in
    let n : Member = member_at s g in
    let e : At = event_in s f in
    let d : At = event_in s g in
    let new : Member = granted_at m e (taken_at f m e s.items) in
    let xs : List Parcel = left_at f m e s.items in
    let does = grant_does p s f in
    let event : event_in (with_member s f new xs) g ≡ event_in s g = ap (λ (t : State). event_in t g) (sym does) ∙ event_after p s f g within in
    ap (λ (t : State). after p t (grant g)) does ∙ grant_same p s f g new xs differs event
    ∙ ap (λ (hs : List Parcel). with_member (with_member s f new xs) g (granted_at n d hs) (left_at g n d xs)) (taken_apart f g m n e d s.items differs)

-- grants of two federates change different members, and neither changes the event or the items of the other
pub grant_grant : (p : Plan) (s : State) (f g : ℕ) → f ≢ g → refusal_of p s (grant f) ≡ None → refusal_of p s (grant g) ≡ None → Commutes p s (grant f) (grant g)
grant_grant p s f g differs first second =
    let back : g ≢ f = λ e. differs (sym e) in
    record {
      lawful = grant_after_grant p s f g differs first second;
      back = grant_after_grant p s g f back second first;
      same = two_grants p s f g differs (may_grant p s f first).within
          ∙ members_commute s f g _ _ _ _ differs (left_commutes f g (member_at s f) (member_at s g) (event_in s f) (event_in s g) s.items)
          ∙ sym (two_grants p s g f back (may_grant p s g second).within);
    }
