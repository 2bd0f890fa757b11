-- What the logs hold.
use Rattle.std.proofs.Common.{◌≡◌, ℕ, zero, suc, refl, sym, ◌∙◌, ap, List, [], ◌∷◌, ◌++◌, get_or}
use Rattle.std.specs.Prelude.{map}
use Rattle.std.specs.List.{filter}
use Rattle.std.proofs.lemmas.Bool.{eq-eqb, ne_eqb}
use Rattle.std.proofs.lemmas.List.{append-nil, append_assoc}
use Rattle.std.proofs.lemmas.List.Elements.{filter-append}
use Rattle.helics_time.specs.Settings.{Terms}
use Rattle.hel_lists.proofs.Members.{in_filter}
use Rattle.due_queue.specs.Item.{Parcel, is_to}
use Rattle.machine_laws.specs.declared.logs.LogEntry.{LogEntry}
use Rattle.machine_laws.specs.Plan.{Plan, IsPlan}
use Rattle.machine_laws.specs.Machine.{Member, State, Step, member_at, blank_member, new_member, opening, cut_in, is_handed, handed_in, IsLawful, after, IsRun}
use Rattle.machine_laws.specs.Machine.Step.{make, grant}
use Rattle.machine_laws.specs.Laws.{Keeps, handed_by, all_handed, logged_items, LogsHold}
use Rattle.machine_laws.proofs.Accepted.{may_grant}
use Rattle.machine_laws.proofs.Calm.{calm_step}
use Rattle.machine_laws.proofs.Handed.{handed_target}
use Rattle.machine_laws.proofs.Keep.{keeps_step, keeps_opening}
use Rattle.machine_laws.proofs.Members.{by_member}
use Rattle.due_queue.proofs.Dues.{filter_none, filter_each}
use Rattle.machine_laws.proofs.News.{sender_of}

-- the items of a log with one more entry
items_push : (es : List LogEntry) (e : LogEntry) → logged_items (es ++ e ∷ []) ≡ logged_items es ++ e.items
items_push [] e = append-nil e.items
items_push (x ∷ es) e = ap (λ (l : List Parcel). x.items ++ l) (items_push es e) ∙ sym (append_assoc x.items (logged_items es) e.items)

-- what a grant of g hands over is all for g
handed_to_it : (s : State) (f g : ℕ) → f ≡ g → filter (is_to f) (handed_in s g) ≡ handed_in s g
handed_to_it s f g same =
    filter_each (is_to f) (handed_in s g) (λ i among. eq-eqb i.target f (handed_target g (cut_in s g) i (in_filter (is_handed g (cut_in s g)) s.items i among).1 ∙ sym same))

-- and nothing for another
handed_to_others : (s : State) (f g : ℕ) → (f ≡ g → ⊥) → filter (is_to f) (handed_in s g) ≡ []
handed_to_others s f g other =
    filter_none (is_to f) (handed_in s g) (λ i among. ne_eqb i.target f (λ e. other (sym e ∙ handed_target g (cut_in s g) i (in_filter (is_handed g (cut_in s g)) s.items i among).1)))

-- one step adds to a log what it hands over to its federate
holds_step : (p : Plan) (s : State) (step : Step) (f : ℕ) → Keeps p s → IsLawful p s step →
    logged_items (member_at (after p s step) f).log ≡ logged_items (member_at s f).log ++ filter (is_to f) (handed_by s step)
holds_step p s (grant g) f keeps lawful =
    by_member (λ (m : Member). logged_items m.log ≡ logged_items (member_at s f).log ++ filter (is_to f) (handed_in s g)) s g f _ s.items (may_grant p s g lawful.0).within
    (λ same. items_push (member_at s g).log _ ∙ ap (λ (l : List Parcel). logged_items (member_at s g).log ++ l) (sym (handed_to_it s f g same))
    ∙ ap (λ (k : ℕ). logged_items (member_at s k).log ++ filter (is_to f) (handed_in s g)) (sym same))
    (λ other. sym (append-nil (logged_items (member_at s f).log)) ∙ ap (λ (l : List Parcel). logged_items (member_at s f).log ++ l) (sym (handed_to_others s f g other)))
holds_step p s (make g call) f keeps lawful =
    by_member (λ (m : Member). logged_items m.log ≡ logged_items (member_at s f).log ++ []) s g f _ s.items (sender_of p s g call keeps lawful.0).within
    (λ same. ap (λ (k : ℕ). logged_items (member_at s k).log) (sym same) ∙ sym (append-nil (logged_items (member_at s f).log)))
    (λ other. sym (append-nil (logged_items (member_at s f).log)))
holds_step p s step f keeps lawful = ap logged_items (calm_step p s step keeps.feds lawful tt f).log ∙ sym (append-nil (logged_items (member_at s f).log))

-- and so does a run
holds_run : (p : Plan) (s : State) (steps : List Step) (end : State) (f : ℕ) → IsPlan p → Keeps p s → IsRun p s steps end →
    logged_items (member_at end f).log ≡ logged_items (member_at s f).log ++ filter (is_to f) (all_handed p s steps)
holds_run p s [] end f plan keeps run = ap (λ (t : State). logged_items (member_at t f).log) run ∙ sym (append-nil (logged_items (member_at s f).log))
holds_run p s (step ∷ steps) end f plan keeps run =
    holds_run p (after p s step) steps end f plan (keeps_step p s step plan keeps run.0) run.1
    ∙ ap (λ (l : List Parcel). l ++ filter (is_to f) (all_handed p (after p s step) steps)) (holds_step p s step f keeps run.0)
    ∙ append_assoc (logged_items (member_at s f).log) (filter (is_to f) (handed_by s step)) (filter (is_to f) (all_handed p (after p s step) steps))
    ∙ ap (λ (l : List Parcel). logged_items (member_at s f).log ++ l) (sym (filter-append (is_to f) (handed_by s step) (all_handed p (after p s step) steps)))

-- the logs begin empty
empty_log : (ts : List Terms) (f : ℕ) → logged_items (get_or (map new_member ts) f blank_member).log ≡ []
empty_log [] f = refl
empty_log (t ∷ ts) zero = refl
empty_log (t ∷ ts) (suc f) = empty_log ts f

pub logs_hold : LogsHold
logs_hold p steps end f plan run =
    holds_run p (opening p) steps end f plan (keeps_opening p plan) run
    ∙ ap (λ (l : List Parcel). l ++ filter (is_to f) (all_handed p (opening p) steps)) (empty_log p.settings f)
