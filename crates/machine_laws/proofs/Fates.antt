-- What becomes of an item: it stays until the first grant that reaches it, is handed over there, and never comes again.
use Rattle.std.proofs.Common.{◌≡◌, ◌⊎◌, inl, inr, ℕ, ◌<◌, ◌≤◌, arith, refl, sym, ap, subst, List, [], ◌∷◌}
use Rattle.std.specs.Prelude.{not}
use Rattle.std.proofs.lemmas.Bool.{cases_lt, cases_eq}
use Rattle.helics_time.specs.Stamp.{rank}
use Rattle.hel_lists.specs.Members.{IsIn}
use Rattle.hel_lists.proofs.Members.{in_filter, filter_in}
use Rattle.due_queue.specs.Item.{Parcel}
use Rattle.due_queue.proofs.Order.{in_insert_all, insert_all_old, insert_all_new, filter_ordered}
use Rattle.machine_laws.specs.Plan.{Plan, IsPlan}
use Rattle.machine_laws.specs.Machine.{State, Step, member_at, opening, cut_in, is_handed, is_left, handed_in, items_in, IsLawful, after, IsRun}
use Rattle.machine_laws.specs.Machine.Step.{make, grant}
use Rattle.machine_laws.specs.Laws.{Keeps, KeptUntilReached, HandedWhenReached, HandedOnce, HandedInOrder, IsHanded, ItemsFates, ItemsFromCalls, NotReached}
use Rattle.machine_laws.proofs.Accepted.{may_grant}
use Rattle.machine_laws.proofs.Cuts.{cut_is}
use Rattle.machine_laws.proofs.Handed.{handed_reached, not_reached, not_theirs, left_or_handed}
use Rattle.machine_laws.proofs.Keep.{keeps_step, keeps_run, keeps_opening}
use Rattle.machine_laws.proofs.News.{new_is}
use Rattle.machine_laws.proofs.Onward.{onward_step}

-- one step leaves an item that it doesn't reach
stays : (p : Plan) (s : State) (step : Step) (i : Parcel) → Keeps p s → IsLawful p s step → IsIn i s.items → (step ≡ grant i.target → rank (cut_in s i.target) < rank i.due) → IsIn i (after p s step).items
stays p s (make f call) i keeps lawful among far = insert_all_old (items_in p s f call) s.items i among
stays p s (grant f) i keeps lawful among far =
    filter_in (is_left f (cut_in s f)) s.items i among (ap not (elim (cases_eq i.target f) [
      | inl same ↦
          let above = far (ap (λ (k : ℕ). grant k) (sym same)) in
          let cut : rank (cut_in s i.target) ≡ rank (cut_in s f) = ap (λ (k : ℕ). rank (cut_in s k)) same in
          not_reached f (cut_in s f) i (keeps.dues i among) (cut_is p s f keeps (may_grant p s f lawful.0)) (omega (arith, above, cut))
      | inr other ↦ not_theirs f (cut_in s f) i other
    ]))
stays p s step i keeps lawful among far = among

-- and so does a run that does not reach it
stays_run : (p : Plan) (s : State) (steps : List Step) (t : State) (i : Parcel) → IsPlan p → Keeps p s → IsRun p s steps t → IsIn i s.items → NotReached p s steps i → IsIn i t.items
stays_run p s [] t i plan keeps run among far = subst (λ (u : State). IsIn i u.items) (sym run) among
stays_run p s (step ∷ steps) t i plan keeps run among far =
    stays_run p (after p s step) steps t i plan (keeps_step p s step plan keeps run.0) run.1 (stays p s step i keeps run.0 among far.0) far.1

pub kept_until : KeptUntilReached
kept_until p s t before later i plan run among rest far =
    stays_run p s later t i plan (keeps_run p (opening p) before s plan (keeps_opening p plan) run) rest among far

-- a grant hands over what it reaches
handed_at : (p : Plan) (s : State) (i : Parcel) → Keeps p s → IsLawful p s (grant i.target) → IsIn i s.items → rank i.due ≤ rank (cut_in s i.target) → IsIn i (handed_in s i.target)
handed_at p s i keeps lawful among reached =
    filter_in (is_handed i.target (cut_in s i.target)) s.items i among
    (handed_reached i.target (cut_in s i.target) i (keeps.dues i among) (cut_is p s i.target keeps (may_grant p s i.target lawful.0)) refl reached)

pub handed_when : HandedWhenReached
handed_when p s before i plan run among lawful reached =
    handed_at p s i (keeps_run p (opening p) before s plan (keeps_opening p plan) run) lawful among reached

-- what a grant hands over is a part of the ordered list
pub handed_in_order : HandedInOrder
handed_in_order p s f before plan run = filter_ordered (is_handed f (cut_in s f)) s.items (keeps_run p (opening p) before s plan (keeps_opening p plan) run).ordered

-- an item that isn't there and has been given its number
record Gone (s : State) (i : Parcel) : Type 0 where
  away : IsIn i s.items → ⊥
  number : i.seq < (member_at s i.source).seq

-- it isn't put in again
away_step : (p : Plan) (s : State) (step : Step) (i : Parcel) → Gone s i → IsIn i (after p s step).items → ⊥
away_step p s (make f call) i gone among = elim (in_insert_all (items_in p s f call) s.items i among) [
  | inl among_new ↦
      let new = new_is p s f call i among_new in
      let own : i.seq ≡ (member_at s f).seq = ap (λ (j : Parcel). j.seq) new.is in
      let source : (member_at s i.source).seq ≡ (member_at s f).seq = ap (λ (j : Parcel). (member_at s j.source).seq) new.is in
      let number = gone.number in
      absurd (omega (arith, own, source, number))
  | inr old ↦ gone.away old
]
away_step p s (grant f) i gone among = gone.away (in_filter (is_left f (cut_in s f)) s.items i among).0
away_step p s step i gone among = gone.away among

-- and its number stays given out
number_step : (p : Plan) (s : State) (step : Step) (i : Parcel) → Keeps p s → IsLawful p s step → i.seq < (member_at s i.source).seq → i.seq < (member_at (after p s step) i.source).seq
number_step p s step i keeps lawful number = let rise = (onward_step p s step keeps lawful i.source).seq in omega (arith, number, rise)

-- so it never comes
gone_run : (p : Plan) (s : State) (steps : List Step) (t : State) (i : Parcel) → IsPlan p → Keeps p s → IsRun p s steps t → Gone s i → IsIn i t.items → ⊥
gone_run p s [] t i plan keeps run gone among = gone.away (subst (λ (u : State). IsIn i u.items) run among)
gone_run p s (step ∷ steps) t i plan keeps run gone among =
    gone_run p (after p s step) steps t i plan (keeps_step p s step plan keeps run.0) run.1
    (record { away = away_step p s step i gone; number = number_step p s step i keeps run.0 gone.number }) among

-- an item that a grant has handed over is one
handed_gone : (p : Plan) (s : State) (f : ℕ) (i : Parcel) → Keeps p s → IsLawful p s (grant f) → IsIn i (handed_in s f) → Gone (after p s (grant f)) i
handed_gone p s f i keeps lawful handed =
    let was = in_filter (is_handed f (cut_in s f)) s.items i handed in
    record {
      away = λ there. left_or_handed f (cut_in s f) i was.1 (in_filter (is_left f (cut_in s f)) s.items i there).1;
      number = number_step p s (grant f) i keeps lawful (keeps.numbers i was.0);
    }

-- what a grant has handed over is never undelivered again
never_again : (p : Plan) (s t : State) (f : ℕ) (later : List Step) (i : Parcel) → IsPlan p → Keeps p s → IsLawful p s (grant f) → IsIn i (handed_in s f) → IsRun p (after p s (grant f)) later t → IsIn i t.items → ⊥
never_again p s t f later i plan keeps lawful handed rest =
    gone_run p (after p s (grant f)) later t i plan (keeps_step p s (grant f) plan keeps lawful) rest (handed_gone p s f i keeps lawful handed)

pub handed_once : HandedOnce
handed_once p s t f before later i plan run lawful handed rest = never_again p s t f later i plan (keeps_run p (opening p) before s plan (keeps_opening p plan) run) lawful handed rest

-- a step is a grant of the item's target that reaches it, or none
meets : (s : State) (step : Step) (i : Parcel) → ((step ≡ grant i.target) × (rank i.due ≤ rank (cut_in s i.target))) ⊎ (step ≡ grant i.target → rank (cut_in s i.target) < rank i.due)
meets s (grant f) i = elim (cases_lt (rank (cut_in s i.target)) (rank i.due)) [
  | inl far ↦ inr (λ e. far)
  | inr reached ↦ elim (cases_eq f i.target) [
    | inl same ↦ inl (ap (λ (k : ℕ). grant k) same, reached)
    | inr other ↦ inr (λ e. absurd (other (cc)))
  ]
]
meets s step i = inr (λ e. cc)

-- by the first step of the run: a grant that reaches the item, or another step, which leaves it
fate : (p : Plan) (s end : State) (steps : List Step) (i : Parcel) → IsPlan p → Keeps p s → IsIn i s.items → IsRun p s steps end → (NotReached p s steps i × IsIn i end.items) ⊎ IsHanded p s steps end i
fate p s end [] i plan keeps among run = inl (tt, subst (λ (u : State). IsIn i u.items) (sym run) among)
fate p s end (step ∷ steps) i plan keeps among run = elim (meets s step i) [
  | inl meet ↦
      let lawful = subst (λ (x : Step). IsLawful p s x) meet.0 run.0 in
      let more = subst (λ (x : Step). IsRun p (after p s x) steps end) meet.0 run.1 in
      let handed = handed_at p s i keeps lawful among meet.1 in
      inr (record {
        first = [];
        rest = steps;
        at = s;
        split = ap (λ (x : Step). x ∷ steps) meet.0;
        run = refl;
        far = tt;
        reached = meet.1;
        handed = handed;
        more = more;
        never = never_again p s end i.target steps i plan keeps lawful handed more;
      })
  | inr far ↦ elim (fate p (after p s step) end steps i plan (keeps_step p s step plan keeps run.0) (stays p s step i keeps run.0 among far) run.1) [
    | inl stayed ↦ inl ((far, stayed.0), stayed.1)
    | inr handed ↦ inr (record {
      first = step ∷ handed.first;
      rest = handed.rest;
      at = handed.at;
      split = ap (λ (l : List Step). step ∷ l) handed.split;
      run = (run.0, handed.run);
      far = (far, handed.far);
      reached = handed.reached;
      handed = handed.handed;
      more = handed.more;
      never = handed.never;
    })
  ]
]

pub fates : ItemsFates
fates p s end before steps i plan start among run = fate p s end steps i plan (keeps_run p (opening p) before s plan (keeps_opening p plan) start) among run

-- items come from calls alone, and each call's own come
pub items_from_calls : ItemsFromCalls
items_from_calls p s (make f call) = record {
  alone = λ i among. elim (in_insert_all (items_in p s f call) s.items i among) [
    | inl new ↦ inr (f, call, refl, new)
    | inr old ↦ inl old
  ];
  each = λ g other i same among. insert_all_new (items_in p s f call) s.items i (subst (λ (y : Step). IsMade i y) (sym same) among);
}
  where
    IsMade : Parcel → Step → Type 0
    IsMade i (make f call) = IsIn i (items_in p s f call)
    IsMade i step = ⊥
items_from_calls p s (grant f) = record { alone = λ i among. inl (in_filter (is_left f (cut_in s f)) s.items i among).0; each = λ g call i same among. cc }
items_from_calls p s step = record { alone = λ i among. inl among; each = λ g call i same among. cc }
