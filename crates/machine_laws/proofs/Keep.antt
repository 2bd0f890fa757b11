-- What every state of a run keeps.
use Rattle.std.proofs.Common.{◌≡◌, ◌⊎◌, inl, inr, ℕ, zero, suc, ◌+◌, ◌<◌, ◌≤◌, Bool, true, arith, refl, sym, ◌∙◌, ap, subst, List, [], ◌∷◌, length, get_or}
use Rattle.std.specs.Prelude.{map}
use Rattle.std.specs.List.{filter}
use Rattle.helics_time.specs.Stamp.{At, IsDue, rank}
use Rattle.helics_time.specs.Settings.{Terms, IsTerms}
use Rattle.hel_lists.specs.Members.{IsIn, Each}
use Rattle.hel_lists.proofs.Members.{in_filter}
use Rattle.due_queue.specs.Item.{Parcel}
use Rattle.due_queue.specs.Order.{insert_all}
use Rattle.due_queue.proofs.Order.{in_insert_all, filter_ordered, insert_all_ordered}
use Rattle.time_state.specs.Fed.{Fed, IsFed, event_of, item_stamp}
use Rattle.time_state.specs.Laws.{Counts}
use Rattle.time_state.proofs.Events.{event_by}
use Rattle.time_state.proofs.Least.{event_fewer}
use Rattle.time_state.proofs.Ranges.{event_stamp}
use Rattle.time_state.proofs.Turns.{opening_stands}
use Rattle.machine_laws.specs.Plan.{Plan, IsPlan, Call}
use Rattle.machine_laws.specs.Machine.{Member, State, Step, member_at, blank_member, new_member, default_terms, opening, dues_to, event_in, cut_in, items_in, is_left, called_member, with_member, IsLawful, after, IsRun}
use Rattle.machine_laws.specs.Machine.Step.{make, grant}
use Rattle.machine_laws.specs.Laws.{RunsKeep, Keeps}
use Rattle.machine_laws.proofs.Accepted.{MayGrant, may_grant}
use Rattle.machine_laws.proofs.Calm.{Calmer, calm_step, default_is}
use Rattle.machine_laws.proofs.Cuts.{dues_of, event_in_is, granted_is, cut_is, cut_below, first_above, first_none, first_each}
use Rattle.machine_laws.proofs.Handed.{in_dues, dues_due, dues_within, left_above}
use Rattle.machine_laws.proofs.Members.{same_member, by_member}
use Rattle.machine_laws.proofs.News.{Sender, sender_of, New, new_is, new_due, new_source, new_late, new_safe}

-- the same items, and calmer members
keeps_calm : (p : Plan) (s : State) (b : Bool) (ms : List Member) → IsPlan p → Keeps p s → ((f : ℕ) → Calmer (member_at s f) (get_or ms f blank_member)) →
    Keeps p (record { begun = b; members = ms; items = s.items })
keeps_calm p s b ms plan keeps calm = record {
  feds = λ f. (calm f).fed;
  dues = keeps.dues;
  sources = keeps.sources;
  numbers = λ i among. (let before = keeps.numbers i among in let same = (calm i.source).seq in omega (arith, before, same));
  ordered = keeps.ordered;
  late = λ i among. (let before = keeps.late i among in let same = cut_same i.target in omega (arith, before, same));
  safe = λ f a anc.
      (let before = keeps.safe f a anc in
      let due = dues_of p s a keeps in
      let more = plan.rises a (event_in s a) (event_of (get_or ms a blank_member).time (dues_to s.items a)) (event_in_is p s a keeps)
      (event_stamp (get_or ms a blank_member).time (dues_to s.items a) (calm a).fed due) ((calm a).rises (dues_to s.items a) due) in
      let same = cut_same f in
      omega (arith, before, more, same));
}
  where
    cut_same : (f : ℕ) → rank (get_or ms f blank_member).time.last_cut ≡ rank (member_at s f).time.last_cut
    cut_same f = ap rank (calm f).same.cut

-- one member goes on to a cut below `first` of its ancestors, and items are taken out: those left for it are due above the cut
keeps_taken : (p : Plan) (s : State) (f : ℕ) (n : Member) (q : Parcel → Bool) → IsPlan p → Keeps p s → f < length s.members →
    IsFed n.time → n.seq ≡ (member_at s f).seq → ((dues : List At) → rank (event_in s f) ≤ rank (event_of n.time dues)) →
    ((i : Parcel) → IsIn i s.items → i.target ≡ f → q i ≡ true → rank n.time.last_cut < rank i.due) →
    ((a : ℕ) → IsIn a (p.ancestors f) → rank n.time.last_cut < rank (p.first a (event_in s a))) →
    Keeps p (with_member s f n (filter q s.items))
keeps_taken p s f n q plan keeps within fed_new seq_new event_new left safe = record {
  feds = feds_t;
  dues = λ i among. keeps.dues i (was i among).0;
  sources = λ i among. keeps.sources i (was i among).0;
  numbers = λ i among. (let e = seq_same i.source in let before = keeps.numbers i (was i among).0 in omega (arith, e, before));
  ordered = filter_ordered q s.items keeps.ordered;
  late = λ i among.
      by_member (λ (m : Member). rank m.time.last_cut < rank i.due) s f i.target n (filter q s.items) within
      (λ same. left i (was i among).0 same (was i among).1)
      (λ other. keeps.late i (was i among).0);
  safe = λ x a anc.
      (let rise = plan.rises a (event_in s a) (event_in t a) (event_in_is p s a keeps) (event_stamp (member_at t a).time (dues_to t.items a) (feds_t a) (due_t a)) (event_rises a) in
      let below : rank (member_at t x).time.last_cut < rank (p.first a (event_in s a)) =
      by_member (λ (m : Member). rank m.time.last_cut < rank (p.first a (event_in s a))) s f x n (filter q s.items) within
      (λ same. safe a (subst (λ (k : ℕ). IsIn a (p.ancestors k)) same anc))
      (λ other. keeps.safe x a anc) in
      omega (arith, rise, below));
}
  where
    t : State
    t = with_member s f n (filter q s.items)

    was : (i : Parcel) → IsIn i t.items → IsIn i s.items × (q i ≡ true)
    was i among = in_filter q s.items i among

    due_t : (a : ℕ) → Each IsDue (dues_to t.items a)
    due_t a = dues_due t.items a (λ i among. keeps.dues i (was i among).0)

    feds_t : (x : ℕ) → IsFed (member_at t x).time
    feds_t x = by_member (λ (m : Member). IsFed m.time) s f x n (filter q s.items) within (λ same. fed_new) (λ other. keeps.feds x)

    seq_same : (x : ℕ) → (member_at t x).seq ≡ (member_at s x).seq
    seq_same x =
        by_member (λ (m : Member). m.seq ≡ (member_at s x).seq) s f x n (filter q s.items) within
        (λ same. seq_new ∙ ap (λ (k : ℕ). (member_at s k).seq) (sym same))
        (λ other. refl)

    event_rises : (a : ℕ) → rank (event_in s a) ≤ rank (event_in t a)
    event_rises a =
        by_member (λ (m : Member). rank (event_in s a) ≤ rank (event_of m.time (dues_to t.items a))) s f a n (filter q s.items) within
        (λ same. (let e : rank (event_in s a) ≡ rank (event_in s f) = ap (λ (k : ℕ). rank (event_in s k)) same in let new = event_new (dues_to t.items a) in omega (arith, e, new)))
        (λ other. event_fewer (member_at s a).time (dues_to s.items a) (dues_to t.items a) (keeps.feds a) (dues_of p s a keeps) (dues_within t.items s.items a (λ i among. (was i among).0)))

-- a grant goes on to its cut, and takes out all that is due by it
keeps_grant : (p : Plan) (s : State) (f : ℕ) → IsPlan p → Keeps p s → MayGrant p s f → Keeps p (after p s (grant f))
keeps_grant p s f plan keeps may =
    keeps_taken p s f _ (is_left f (cut_in s f)) plan keeps may.within
    (granted_is p s f keeps may)
    refl
    (λ dues. omega arith)
    (λ i among same left. left_above f (cut_in s f) i (keeps.dues i among) (cut_is p s f keeps may) same left)
    (λ a anc. cut_below p s f a plan keeps may anc)

-- a call that sends puts in items that are safe
keeps_make : (p : Plan) (s : State) (f : ℕ) (call : Call) → IsPlan p → Keeps p s → Sender p s f → Keeps p (after p s (make f call))
keeps_make p s f call plan keeps sender = record {
  feds = λ x. subst IsFed (sym (time_same x)) (keeps.feds x);
  dues = λ i among. elim (was i among) [
    | inl new ↦ new_due p s f call i plan keeps sender new
    | inr old ↦ keeps.dues i old
  ];
  sources = λ i among. elim (was i among) [
    | inl new ↦ elim (new_source p s f call i plan new) [
      | inl self ↦ inl (self ∙ sym (source_is i new))
      | inr anc ↦ inr (subst (λ (k : ℕ). IsIn k (p.ancestors i.target)) (sym (source_is i new)) anc)
    ]
    | inr old ↦ keeps.sources i old
  ];
  numbers = λ i among. elim (was i among) [
    | inl new ↦
        (let own : i.seq ≡ (member_at s f).seq = ap (λ (j : Parcel). j.seq) new.is in
        let more : (member_at t i.source).seq ≡ (member_at s f).seq + 1 = ap (λ (m : Member). m.seq) (same_member s f i.source next items (source_is i new) sender.within) in
        omega (arith, own, more))
    | inr old ↦ (let before = keeps.numbers i old in let more = seq_rises i.source in omega (arith, before, more))
  ];
  ordered = insert_all_ordered (items_in p s f call) s.items keeps.ordered;
  late = λ i among.
      (let e = cut_same i.target in
      let above : rank (member_at s i.target).time.last_cut < rank i.due = elim (was i among) [
        | inl new ↦ new_late p s f call i plan keeps sender new
        | inr old ↦ keeps.late i old
      ] in
      omega (arith, e, above));
  safe = λ x a anc.
      (let e = cut_same x in
      let event : rank (p.first a (event_in t a)) ≡ rank (p.first a (event_of (member_at s a).time (dues_to items a))) = ap (λ (y : Fed). rank (p.first a (event_of y (dues_to items a)))) (time_same a) in
      let below = event_by (λ y. rank (member_at s x).time.last_cut < rank (p.first a y)) (member_at s a).time (dues_to items a) (none_safe x a anc) (each_safe x a anc) in
      omega (arith, e, event, below));
}
  where
    next : Member
    next = called_member (member_at s f)

    items : List Parcel
    items = insert_all (items_in p s f call) s.items

    t : State
    t = with_member s f next items

    time_same : (x : ℕ) → (member_at t x).time ≡ (member_at s x).time
    time_same x =
        by_member (λ (m : Member). m.time ≡ (member_at s x).time) s f x next items sender.within (λ same. ap (λ (k : ℕ). (member_at s k).time) (sym same)) (λ other. refl)

    cut_same : (x : ℕ) → rank (member_at t x).time.last_cut ≡ rank (member_at s x).time.last_cut
    cut_same x = ap (λ (y : Fed). rank y.last_cut) (time_same x)

    seq_rises : (x : ℕ) → (member_at s x).seq ≤ (member_at t x).seq
    seq_rises x =
        by_member (λ (m : Member). (member_at s x).seq ≤ m.seq) s f x next items sender.within
        (λ same. (let e : (member_at s x).seq ≡ (member_at s f).seq = ap (λ (k : ℕ). (member_at s k).seq) same in omega (arith, e)))
        (λ other. omega arith)

    was : (i : Parcel) → IsIn i items → New p s f call i ⊎ IsIn i s.items
    was i among = elim (in_insert_all (items_in p s f call) s.items i among) [
      | inl new ↦ inl (new_is p s f call i new)
      | inr old ↦ inr old
    ]

    source_is : (i : Parcel) → New p s f call i → i.source ≡ f
    source_is i new = ap (λ (j : Parcel). j.source) new.is

    none_safe : (x a : ℕ) → IsIn a (p.ancestors x) → rank (member_at s x).time.last_cut < rank (p.first a (event_of (member_at s a).time []))
    none_safe x a anc = let before = keeps.safe x a anc in let rise = first_none p s a plan keeps in omega (arith, before, rise)

    of_item : (x : ℕ) (i : Parcel) → IsIn i.target (p.ancestors x) → Counts (member_at s i.target).time → New p s f call i ⊎ IsIn i s.items →
        rank (member_at s x).time.last_cut < rank (p.first i.target (item_stamp (member_at s i.target).time i.due))
    of_item x i anc counts (inl new) = new_safe p s f call i x plan keeps sender new anc counts.0
    of_item x i anc counts (inr old) = let before = keeps.safe x i.target anc in let rise = first_each p s i plan keeps counts old in omega (arith, before, rise)

    each_safe : (x a : ℕ) → IsIn a (p.ancestors x) → (d : At) → IsIn d (dues_to items a) → Counts (member_at s a).time → rank (member_at s x).time.last_cut < rank (p.first a (item_stamp (member_at s a).time d))
    each_safe x a anc d among counts =
        let m = in_dues items a d among in
        let i : Parcel = m.0 in
        subst (λ (k : ℕ). rank (member_at s x).time.last_cut < rank (p.first k (item_stamp (member_at s k).time d))) m.2
        (subst (λ (y : At). rank (member_at s x).time.last_cut < rank (p.first i.target (item_stamp (member_at s i.target).time y))) (sym m.3)
        (of_item x i (subst (λ (k : ℕ). IsIn k (p.ancestors x)) (sym m.2) anc) (subst (λ (k : ℕ). Counts (member_at s k).time) (sym m.2) counts) (was i m.1)))

-- one step
pub keeps_step : (p : Plan) (s : State) (step : Step) → IsPlan p → Keeps p s → IsLawful p s step → Keeps p (after p s step)
keeps_step p s (make f call) plan keeps lawful = keeps_make p s f call plan keeps (sender_of p s f call keeps lawful.0)
keeps_step p s (grant f) plan keeps lawful = keeps_grant p s f plan keeps (may_grant p s f lawful.0)
keeps_step p s step plan keeps lawful = keeps_calm p s (after p s step).begun (after p s step).members plan keeps (calm_step p s step keeps.feds lawful tt)

-- the opening
opening_at : (ts : List Terms) (f : ℕ) → Each IsTerms ts → (terms : Terms) × IsTerms terms × (get_or (map new_member ts) f blank_member ≡ new_member terms)
opening_at [] f each = (default_terms, default_is, refl)
opening_at (t ∷ ts) zero each = (t, each t (inl refl), refl)
opening_at (t ∷ ts) (suc f) each = opening_at ts f (λ x among. each x (inr among))

-- at the opening there are no items, and every last cut is (0, 0)
pub keeps_opening : (p : Plan) → IsPlan p → Keeps p (opening p)
keeps_opening p plan = record {
  feds = λ f. (let at = opening_at p.settings f plan.settings in subst (λ (m : Member). IsFed m.time) (sym at.2) (opening_stands at.0 at.1));
  dues = λ i none. absurd none;
  sources = λ i none. absurd none;
  numbers = λ i none. absurd none;
  ordered = tt;
  late = λ i none. absurd none;
  safe = λ f a anc.
      (let at = opening_at p.settings f plan.settings in
      let at_a = opening_at p.settings a plan.settings in
      let zero_at : At = record { time = 0; micro = 0 } in
      let cut : rank (member_at (opening p) f).time.last_cut ≡ 0 = ap (λ (m : Member). rank m.time.last_cut) at.2 in
      let event : rank (p.first a (event_in (opening p) a)) ≡ rank (p.first a zero_at) = ap (λ (m : Member). rank (p.first a (event_of m.time []))) at_a.2 in
      let above = first_above p a zero_at plan (record { time = omega arith; micro = omega arith }) in
      omega (arith, cut, event, above));
}

-- so every state of a run keeps it
pub keeps_run : (p : Plan) (s : State) (steps : List Step) (end : State) → IsPlan p → Keeps p s → IsRun p s steps end → Keeps p end
keeps_run p s [] end plan keeps run = subst (λ (t : State). Keeps p t) (sym run) keeps
keeps_run p s (step ∷ steps) end plan keeps run = keeps_run p (after p s step) steps end plan (keeps_step p s step plan keeps run.0) run.1

pub runs_keep : RunsKeep
runs_keep p steps end plan run = keeps_run p (opening p) steps end plan (keeps_opening p plan) run
