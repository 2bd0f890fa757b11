-- A call of one federate and a grant of another commute.
use Rattle.std.proofs.Common.{◌≡◌, ◌≢◌, ◌⊎◌, inl, inr, ℕ, ◌<◌, ◌≤◌, false, arith, refl, sym, ◌∙◌, ap, subst, List, length, None}
use Rattle.std.specs.Prelude.{not}
use Rattle.std.proofs.lemmas.Bool.{cases_eq}
use Rattle.std.proofs.lemmas.List.{length-set}
use Rattle.helics_time.specs.Stamp.{At, IsStamp, IsDue, rank}
use Rattle.hel_lists.specs.Members.{IsIn}
use Rattle.due_queue.specs.Item.{Parcel}
use Rattle.due_queue.specs.Order.{insert_all}
use Rattle.due_queue.proofs.Order.{in_insert_all, insert_all_old, insert_all_new, filter_skips_all, filter_inserts_all}
use Rattle.time_state.specs.Fed.{IsEvent, event_of, item_stamp, is_asking}
use Rattle.time_state.specs.Laws.{Counts}
use Rattle.time_state.proofs.Events.{at_most_none, at_most_each, greatest, event_by}
use Rattle.time_state.proofs.Least.{event_same}
use Rattle.time_state.proofs.Stamps.{due_below}
use Rattle.machine_laws.specs.Plan.{Plan, IsPlan}
use Rattle.machine_laws.specs.Machine.{Member, State, Step, member_at, dues_to, event_in, cut_in, is_handed, is_left, refusal_of, with_member, IsLawful, after}
use Rattle.machine_laws.specs.Machine.Step.{grant}
use Rattle.machine_laws.specs.Laws.{Keeps}
use Rattle.machine_laws.proofs.Accepted.{MayGrant, may_grant, grant_lawful, accepted, not_waiting}
use Rattle.machine_laws.proofs.Calls.{Calls, Commutes, asks_same, does_same}
use Rattle.machine_laws.proofs.Cuts.{dues_of, event_in_is, granted_is, cut_is, cut_below, below_lawful, item_event, first_above, first_none, first_each}
use Rattle.machine_laws.proofs.GrantsCommute.{granted_at, taken_at, left_at, grant_does, grant_same, cut_same}
use Rattle.machine_laws.proofs.Handed.{in_dues, dues_in, dues_within, not_reached, not_theirs}
use Rattle.machine_laws.proofs.Keep.{keeps_step}
use Rattle.machine_laws.proofs.Members.{same_member, other_member, by_member, members_commute}
use Rattle.machine_laws.proofs.News.{Sender, sender_of, new_is, new_source, sent_after}

-- What the caller puts in for the federate that is granted, or for one on which it depends, is due above the cut. So the grant has the same event, cut and items before the call and after it.
pub call_grant : (p : Plan) (s : State) (f g : ℕ) (a : Step) → IsPlan p → Keeps p s → f ≢ g → Calls p f a → IsLawful p s a → refusal_of p s (grant g) ≡ None → Commutes p s a (grant g)
unfolding taken_at left_at
call_grant p s f g a plan keeps differs calls lawful second = record {
  lawful = ap (λ (t : State). refusal_of p t (grant g)) (calls.does s) ∙ grant_lawful p t g (record {
    within = (let long : length t.members ≡ length s.members = length-set s.members f m in let within = may.within in omega (arith, long, within));
    asks = ap (λ (x : Member). is_asking x.time.phase) member ∙ may.asks;
    none = below_lawful p t g plan keeps_t (subst IsEvent (sym cuts) (cut_is p s g keeps may)) (λ x anc. subst (λ (c : At). rank c < rank (p.first x (event_in t x))) (sym cuts) (above_cut x anc));
  });
  back = ap (λ (u : State). refusal_of p u a) (grant_does p s g) ∙ asks_same p s g f new ys a back_differs calls ∙ lawful.0;
  same = ap (λ (u : State). after p u (grant g)) (calls.does s)
      ∙ grant_same p s f g m xs differs event
      ∙ ap (λ (hs : List Parcel). with_member (with_member s f m xs) g (granted_at n e hs) (left_at g n e xs)) taken
      ∙ members_commute s f g m new (left_at g n e xs) (insert_all news ys) differs left
      ∙ sym (does_same p s g f new ys a back_differs calls)
      ∙ sym (ap (λ (u : State). after p u a) (grant_does p s g));
}
  where
    may : MayGrant p s g
    may = may_grant p s g second

    back_differs : g ≢ f
    back_differs same = differs (sym same)

    m : Member
    m = calls.next (member_at s f)

    n : Member
    n = member_at s g

    e : At
    e = event_in s g

    cut : At
    cut = cut_in s g

    news : List Parcel
    news = calls.news (member_at s f)

    xs : List Parcel
    xs = insert_all news s.items

    ys : List Parcel
    ys = left_at g n e s.items

    new : Member
    new = granted_at n e (taken_at g n e s.items)

    t : State
    t = with_member s f m xs

    member : member_at t g ≡ n
    member = other_member s f g m xs differs

    keeps_t : Keeps p t
    keeps_t = subst (λ (u : State). Keeps p u) (calls.does s) (keeps_step p s a plan keeps lawful)

    -- an item in xs is a new one or an old one
    split : (i : Parcel) → IsIn i xs → IsIn i news ⊎ IsIn i s.items
    split i among = in_insert_all news s.items i among

    new_in : (i : Parcel) → IsIn i news → IsIn i xs
    new_in i among = insert_all_new news s.items i among

    due_of_item : (i : Parcel) → IsIn i xs → IsDue i.due
    due_of_item i among = keeps_t.dues i among

    sender : (i : Parcel) → IsIn i news → Sender p s f
    sender i among = let made = calls.made s i among in sender_of p s f made.0 keeps (subst (λ (x : Step). refusal_of p s x ≡ None) made.1 lawful.0)

    source : (i : Parcel) → IsIn i news → (i.target ≡ f) ⊎ IsIn f (p.ancestors i.target)
    source i among = let made = calls.made s i among in new_source p s f made.0 i plan (new_is p s f made.0 i made.2)

    sent : (i : Parcel) → IsIn i news → i.target ≢ f → rank (p.first f (event_in s f)) ≤ rank i.due
    sent i among other = let made = calls.made s i among in sent_after p s f made.0 i plan (sender i among) (new_is p s f made.0 i made.2) other

    -- what f sends to g, or to a federate on which g depends, is due above the cut of g
    above_new : (i : Parcel) → IsIn i news → i.target ≢ f → (i.target ≡ g) ⊎ IsIn i.target (p.ancestors g) → rank cut < rank i.due
    above_new i among other near =
        let anc : IsIn f (p.ancestors g) = elim (source i among) [
          | inl self ↦ absurd (other self)
          | inr depends ↦ elim near [
            | inl here ↦ subst (λ (k : ℕ). IsIn f (p.ancestors k)) here depends
            | inr above ↦ plan.closed f i.target g depends above differs
          ]
        ] in
        let before = cut_below p s g f plan keeps may anc in
        let after_first = sent i among other in
        omega (arith, before, after_first)

    -- so the grant hands nothing of it over
    not_handed : (i : Parcel) → IsIn i news → is_handed g cut i ≡ false
    not_handed i among = elim (cases_eq i.target g) [
      | inl here ↦ not_reached g cut i (due_of_item i (new_in i among)) (cut_is p s g keeps may) (above_new i among (λ same. differs (sym same ∙ here)) (inl here))
      | inr other ↦ not_theirs g cut i other
    ]

    taken : taken_at g n e xs ≡ taken_at g n e s.items
    taken = filter_skips_all (is_handed g cut) news s.items not_handed

    left : left_at g n e xs ≡ insert_all news ys
    left = filter_inserts_all (is_left g cut) news s.items keeps.ordered (λ i among. ap not (not_handed i among))

    -- so the event of g stays
    event : event_in t g ≡ event_in s g
    event = ap (λ (x : Member). event_of x.time (dues_to xs g)) member
        ∙ sym (event_same n.time (dues_to s.items g) (dues_to xs g) (keeps.feds g) (dues_of p s g keeps) (dues_of p t g keeps_t)
        (λ d among counts.
        (let k = in_dues xs g d among in
        subst (λ (y : At). rank e ≤ rank (item_stamp n.time y)) (sym k.3) (elim (split k.0 k.1) [
          | inl is_new ↦
              (let above = above_new k.0 is_new (λ same. differs (sym same ∙ k.2)) (inl k.2) in
              let low = due_below n.time k.0.due (keeps.feds g) counts.0 (due_of_item k.0 k.1) in
              let cut_low = (granted_is p s g keeps may).cut_low in
              omega (arith, above, low, cut_low))
          | inr old ↦ at_most_each n.time (dues_to s.items g) k.0.due (keeps.feds g) (dues_of p s g keeps) counts
              (subst (λ (x : ℕ). IsIn k.0.due (dues_to s.items x)) k.2 (dues_in s.items k.0 old))
        ])))
        (λ d among counts.
        at_most_each n.time (dues_to xs g) d (keeps.feds g) (dues_of p t g keeps_t) counts (dues_within s.items xs g (λ i old. insert_all_old news s.items i old) d among)))

    cuts : cut_in t g ≡ cut
    cuts = cut_same s t g member event

    -- the caller's own event doesn't fall by what it puts in, since it doesn't wait
    own_rises : rank (event_in s f) ≤ rank (event_of (member_at s f).time (dues_to xs f))
    own_rises = greatest (member_at s f).time (dues_to xs f) (rank (event_in s f))
        (at_most_none (member_at s f).time (dues_to s.items f) (keeps.feds f) (dues_of p s f keeps))
        (λ d among counts.
        (let k = in_dues xs f d among in
        subst (λ (y : At). rank (event_in s f) ≤ rank (item_stamp (member_at s f).time y)) (sym k.3) (elim (split k.0 k.1) [
          | inl is_new ↦ absurd (not_waiting (member_at s f).time.phase (sender k.0 is_new).may.phase counts.0)
          | inr old ↦ at_most_each (member_at s f).time (dues_to s.items f) k.0.due (keeps.feds f) (dues_of p s f keeps) counts
              (subst (λ (x : ℕ). IsIn k.0.due (dues_to s.items x)) k.2 (dues_in s.items k.0 old))
        ])))

    accepts : (f < length s.members) × (calls.refusal (member_at s f) ≡ None)
    accepts = accepted s f (calls.refusal (member_at s f)) (sym (calls.asks s) ∙ lawful.0)

    own_is : IsStamp (event_of m.time (dues_to xs f))
    own_is = subst (λ (x : Member). IsStamp (event_of x.time (dues_to xs f))) (same_member s f f m xs refl accepts.0) (event_in_is p t f keeps_t)

    -- so `first` of the caller stays above the cut of g
    above_own : IsIn f (p.ancestors g) → rank cut < rank (p.first f (event_of m.time (dues_to xs f)))
    above_own anc =
        let before = cut_below p s g f plan keeps may anc in
        let own = own_rises in
        let rises = calls.rises (member_at s f) (dues_to xs f) (keeps.feds f) accepts.1 (dues_of p t f keeps_t) in
        let more = plan.rises f (event_in s f) (event_of m.time (dues_to xs f)) (event_in_is p s f keeps) own_is (omega (arith, rises, own)) in
        omega (arith, before, more)

    -- and so does `first` of another ancestor at the stamp of each item to it
    each_above : (i : Parcel) → IsIn i xs → Counts (member_at s i.target).time → i.target ≢ f → IsIn i.target (p.ancestors g) → rank cut < rank (p.first i.target (item_stamp (member_at s i.target).time i.due))
    each_above i among counts other anc = elim (split i among) [
      | inl is_new ↦
          (let above = above_new i is_new other (inr anc) in
          let low = due_below (member_at s i.target).time i.due (keeps.feds i.target) counts.0 (due_of_item i among) in
          let first = first_above p i.target (item_stamp (member_at s i.target).time i.due) plan (item_event (member_at s i.target).time i.due (keeps.feds i.target) counts.0 (due_of_item i among)) in
          omega (arith, above, low, first))
      | inr old ↦
          (let before = cut_below p s g i.target plan keeps may anc in
          let rise = first_each p s i plan keeps counts old in
          omega (arith, before, rise))
    ]

    -- and at its event
    above_other : (x : ℕ) → IsIn x (p.ancestors g) → x ≢ f → rank cut < rank (p.first x (event_of (member_at s x).time (dues_to xs x)))
    above_other x anc other =
        let before = cut_below p s g x plan keeps may anc in
        event_by (λ y. rank cut < rank (p.first x y)) (member_at s x).time (dues_to xs x)
        (let rise = first_none p s x plan keeps in omega (arith, before, rise))
        (λ d among counts.
        (let k = in_dues xs x d among in
        subst (λ (y : At). rank cut < rank (p.first x (item_stamp (member_at s x).time y))) (sym k.3)
        (subst (λ (q : ℕ). Counts (member_at s q).time → q ≢ f → IsIn q (p.ancestors g) → rank cut < rank (p.first q (item_stamp (member_at s q).time k.0.due))) k.2 (each_above k.0 k.1) counts other anc)))

    above_cut : (x : ℕ) → IsIn x (p.ancestors g) → rank cut < rank (p.first x (event_in t x))
    above_cut x anc =
        by_member (λ (k : Member). rank cut < rank (p.first x (event_of k.time (dues_to xs x)))) s f x m xs accepts.0
        (λ same. subst (λ (q : ℕ). rank cut < rank (p.first q (event_of m.time (dues_to xs q)))) (sym same) (above_own (subst (λ (q : ℕ). IsIn q (p.ancestors g)) same anc)))
        (λ other. above_other x anc other)
