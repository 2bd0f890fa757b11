-- What all calls have in common: what one does to its member, what it puts in, and when it is refused. So calls of two federates commute.
use Rattle.std.proofs.Common.{◌≡◌, ◌≢◌, ℕ, ◌≤◌, arith, refl, sym, ◌∙◌, ap, List, [], Option, None}
use Rattle.std.specs.Prelude.{option_map}
use Rattle.helics_time.specs.Time.{max_time}
use Rattle.helics_time.specs.Stamp.{At, IsDue, rank}
use Rattle.hel_lists.specs.Members.{IsIn, Each}
use Rattle.due_queue.specs.Item.{Parcel}
use Rattle.due_queue.specs.Order.{key, insert_all}
use Rattle.due_queue.proofs.Order.{insert_all_commutes}
use Rattle.iteration_rules.specs.declared.Mode.{Mode}
use Rattle.time_state.specs.Fed.{IsFed, event_of, enter_refusal, request_refusal}
use Rattle.time_state.specs.Laws.Turn.{enters, requests, finishes}
use Rattle.time_state.specs.declared.Cause.TheVariants.{Finished, Failed}
use Rattle.machine_laws.specs.declared.refusal.CallRefusal.{CallRefusal}
use Rattle.machine_laws.specs.declared.refusal.Unlawful.TheVariants.{Refused}
use Rattle.machine_laws.specs.Refusal.{refusal_by_time}
use Rattle.machine_laws.specs.Plan.{Plan, Call, items_by}
use Rattle.machine_laws.specs.Machine.{Member, State, Step, member_at, items_in, make_refusal, finish_refusal, end_refusal, if_refused, refusal_of, entered_member, called_member, requested_member, ended_member, failed_member, with_member, after}
use Rattle.machine_laws.specs.Machine.Step.{enter, make, request, finish, fail}
use Rattle.machine_laws.proofs.Accepted.{none_mapped, lives, calling}
use Rattle.machine_laws.proofs.Calm.{Calmer, calm_turn, calm_end}
use Rattle.machine_laws.proofs.Members.{other_member, still_known, members_commute}
use Rattle.machine_laws.proofs.News.{new_is}

-- a call of f: its next member, what it puts in and why it is refused are functions of the member alone
pub record Calls (p : Plan) (f : ℕ) (step : Step) : Type 0 where
  pub next : Member → Member
  pub news : Member → List Parcel
  pub refusal : Member → Option CallRefusal
  pub does : (s : State) → after p s step ≡ with_member s f (next (member_at s f)) (insert_all (news (member_at s f)) s.items)
  pub asks : (s : State) → refusal_of p s step ≡ if_refused s f (refusal (member_at s f))
  pub rises : (m : Member) (dues : List At) → IsFed m.time → refusal m ≡ None → Each IsDue dues → rank (event_of m.time dues) ≤ rank (event_of (next m).time dues)
  -- only calls that send put items in
  pub made : (s : State) (i : Parcel) → IsIn i (news (member_at s f)) → (call : Call) × (step ≡ make f call) × IsIn i (items_in p s f call)

-- a call that puts nothing in
calls_calm : (p : Plan) (f : ℕ) (step : Step) (next : Member → Member) (refusal : Member → Option CallRefusal) →
    ((s : State) → after p s step ≡ with_member s f (next (member_at s f)) s.items) →
    ((s : State) → refusal_of p s step ≡ if_refused s f (refusal (member_at s f))) →
    ((m : Member) → IsFed m.time → refusal m ≡ None → Calmer m (next m)) → Calls p f step
calls_calm p f step next refusal does asks calm = record {
  next = next;
  news = λ m. [];
  refusal = refusal;
  does = does;
  asks = asks;
  rises = λ m dues fed none due. (calm m fed none).rises dues due;
  made = λ s i none. absurd none;
}

-- each kind of call is one
pub calls_enter : (p : Plan) (f : ℕ) → Calls p f (enter f)
calls_enter p f =
    calls_calm p f (enter f) entered_member (λ m. option_map refusal_by_time (enter_refusal m.time)) (λ s. refl) (λ s. refl)
    (λ m fed none. calm_turn m enters fed (none_mapped refusal_by_time _ none))

pub calls_request : (p : Plan) (f time : ℕ) (mode : Mode) → time ≤ max_time → Calls p f (request f time mode)
calls_request p f time mode fits =
    calls_calm p f (request f time mode) (λ m. requested_member m time mode) (λ m. option_map refusal_by_time (request_refusal m.time)) (λ s. refl) (λ s. refl)
    (λ m fed none. calm_turn m (requests time mode) fed (none_mapped refusal_by_time _ none, fits))

pub calls_finish : (p : Plan) (f : ℕ) → Calls p f (finish f)
calls_finish p f =
    calls_calm p f (finish f) (λ m. ended_member m Finished) finish_refusal (λ s. refl) (λ s. refl)
    (λ m fed none. calm_turn m finishes fed (calling m.time.phase None none).0)

pub calls_fail : (p : Plan) (f : ℕ) (text : List ℕ) → Calls p f (fail f text)
calls_fail p f text =
    calls_calm p f (fail f text) (λ m. failed_member m text) (λ m. end_refusal m.time.phase) (λ s. refl) (λ s. refl)
    (λ m fed none. calm_end m Failed text fed (lives m.time.phase none) (λ e. cc))

pub calls_make : (p : Plan) (f : ℕ) (call : Call) → Calls p f (make f call)
calls_make p f call = record {
  next = called_member;
  news = λ m. items_by p m.time f m.seq call;
  refusal = λ m. make_refusal p f m call;
  does = λ s. refl;
  asks = λ s. refl;
  rises = λ m dues fed none due. omega arith;
  made = λ s i among. (call, refl, among);
}

-- a call asks the same after a step of another
pub asks_same : (p : Plan) (s : State) (f g : ℕ) (n : Member) (items : List Parcel) (b : Step) → f ≢ g → Calls p g b → refusal_of p (with_member s f n items) b ≡ refusal_of p s b
asks_same p s f g n items b differs calls =
    calls.asks (with_member s f n items)
    ∙ still_known s f g n items (option_map Refused (calls.refusal (member_at (with_member s f n items) g)))
    ∙ ap (λ (m : Member). if_refused s g (calls.refusal m)) (other_member s f g n items differs)
    ∙ sym (calls.asks s)

-- and does the same
pub does_same : (p : Plan) (s : State) (f g : ℕ) (n : Member) (items : List Parcel) (b : Step) → f ≢ g → (calls : Calls p g b) →
    after p (with_member s f n items) b ≡ with_member (with_member s f n items) g (calls.next (member_at s g)) (insert_all (calls.news (member_at s g)) items)
does_same p s f g n items b differs calls =
    calls.does (with_member s f n items)
    ∙ ap (λ (m : Member). with_member (with_member s f n items) g (calls.next m) (insert_all (calls.news m) items)) (other_member s f g n items differs)

-- two steps, in either order
pub record Commutes (p : Plan) (s : State) (a b : Step) : Type 0 where
  pub lawful : refusal_of p (after p s a) b ≡ None
  pub back : refusal_of p (after p s b) a ≡ None
  pub same : after p (after p s a) b ≡ after p (after p s b) a

pub flip : (p : Plan) (s : State) (a b : Step) → Commutes p s a b → Commutes p s b a
flip p s a b c = record { lawful = c.back; back = c.lawful; same = sym c.same }

-- calls of two federates change different members, and their items have different sources
pub call_call : (p : Plan) (s : State) (f g : ℕ) (a b : Step) → f ≢ g → Calls p f a → Calls p g b → refusal_of p s a ≡ None → refusal_of p s b ≡ None → Commutes p s a b
call_call p s f g a b differs first second lawful_a lawful_b = record {
  lawful = ap (λ (t : State). refusal_of p t b) (first.does s) ∙ asks_same p s f g m (insert_all xs s.items) b differs second ∙ lawful_b;
  back = ap (λ (t : State). refusal_of p t a) (second.does s) ∙ asks_same p s g f n (insert_all ys s.items) a (λ e. differs (sym e)) first ∙ lawful_a;
  same = ap (λ (t : State). after p t b) (first.does s) ∙ does_same p s f g m (insert_all xs s.items) b differs second
      ∙ members_commute s f g m n (insert_all ys (insert_all xs s.items)) (insert_all xs (insert_all ys s.items)) differs (insert_all_commutes ys xs s.items apart)
      ∙ sym (does_same p s g f n (insert_all ys s.items) a (λ e. differs (sym e)) first)
      ∙ sym (ap (λ (t : State). after p t a) (second.does s));
}
  where
    m : Member
    m = first.next (member_at s f)

    n : Member
    n = second.next (member_at s g)

    xs : List Parcel
    xs = first.news (member_at s f)

    ys : List Parcel
    ys = second.news (member_at s g)

    source_is : (h : ℕ) (step : Step) (calls : Calls p h step) (i : Parcel) → IsIn i (calls.news (member_at s h)) → i.source ≡ h
    source_is h step calls i among = let c = calls.made s i among in ap (λ (j : Parcel). j.source) (new_is p s h c.0 i c.2).is

    -- their sources differ, so their places do
    apart : (j i : Parcel) → IsIn j ys → IsIn i xs → key j ≡ key i → j ≡ i
    apart j i j_among i_among same =
        let source : j.source ≡ i.source = cc in
        absurd (differs (sym (source_is f a first i i_among) ∙ sym source ∙ source_is g b second j j_among))
