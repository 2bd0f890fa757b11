-- What a clock and its log are after a grant or an end.
use Rattle.std.proofs.Common.{◌≡◌, ◌≢◌, ℕ, true, not, List, [], ◌∷◌, ◌++◌, refl, sym, ◌∙◌, ap, subst}
use Rattle.std.specs.List.{filter}
use Rattle.std.proofs.lemmas.Bool.{false≢true}
use Rattle.hel_lists.specs.Members.{IsIn, Each}
use Rattle.hel_lists.proofs.Members.{in_filter}
use Rattle.helics_time.specs.Stamp.{At, IsDue}
use Rattle.due_queue.specs.Item.{Parcel, is_due}
use Rattle.time_state.specs.Fed.{Fed, IsFed, granted_at, grant_at, cut_at, cut_of, ended, event_of, is_asking, is_live}
use Rattle.time_state.specs.declared.Cause.{Cause}
use Rattle.time_state.specs.declared.Cause.TheVariants.{Finished, Failed, Died, Halted}
use Rattle.time_state.specs.declared.Phase.{Phase}
use Rattle.time_state.specs.declared.Phase.TheVariants.{Created, Initializing, Entering, Running, Waiting, Ended}
use Rattle.machine_laws.specs.declared.logs.FedLog.{FedLog}
use Rattle.machine_laws.specs.declared.logs.LogEnd.TheVariants.{Ended as LogEnded, FailedText, Open}
use Rattle.machine_laws.specs.declared.logs.LogEntry.{LogEntry}
use Rattle.machine_laws.specs.Machine.{Member, end_of, ended_member, failed_member, granted_member}
use Rattle.one_place.specs.declared.seat.Clock.{Clock}
use Rattle.one_place.specs.Members.{dues_of, text_of, member_of, IsSeat, IsSeatOf, with_queue}
use Rattle.one_place.proofs.Events.{ended_stands, granted_stands}

-- a clock whose event was found anew
pub refreshed : (c d : Clock) (l : FedLog) (m : Member) → IsFed c.time → d ≡ with_queue c c.queue → Each (λ i. IsDue i.due) d.queue →
    l.end ≡ end_of (member_of c l) → member_of c l ≡ m → IsSeatOf d l m c.queue
refreshed c d l m fed is dues ends member =
    let own = subst (λ (x : Clock). Each (λ (i : Parcel). IsDue i.due) x.queue) is dues in
    subst (λ (x : Clock). IsSeatOf x l m c.queue) (sym is) (record {
      seat = record { clock = record { fed = fed; dues = own; event = refl }; ends = ends };
      member = member;
      queued = refl;
    })

-- how a log ends whose federate ended otherwise than by failing
pub ended_log : (m : Member) (c : Cause) → c ≢ Failed → LogEnded c ≡ end_of (ended_member m c)
ended_log m Finished other = refl
ended_log m Failed other = absurd (other refl)
ended_log m Died other = refl
ended_log m (Halted f) other = refl

-- a federate that lives hasn't failed
live_text : (m : Member) → is_live m.time.phase ≡ true → text_of (end_of m) ≡ []
live_text m live = by_phase m.time.phase refl
  where
    by_phase : (q : Phase) → m.time.phase ≡ q → text_of (end_of m) ≡ []
    by_phase Created is = rw is refl
    by_phase Initializing is = rw is refl
    by_phase Entering is = rw is refl
    by_phase Running is = rw is refl
    by_phase Waiting is = rw is refl
    by_phase (Ended cause) is = let no = rw is at live in absurd (false≢true no)

pub asking_lives : (q : Phase) → is_asking q ≡ true → is_live q ≡ true
asking_lives Created asks = refl
asking_lives Initializing asks = refl
asking_lives Entering asks = refl
asking_lives Running asks = refl
asking_lives Waiting asks = refl
asking_lives (Ended cause) asks = asks

-- a clock and a log after an end
pub ended_seat : (c d : Clock) (l : FedLog) (t : Fed) (cause : Cause) → IsSeat c l → is_live c.time.phase ≡ true → cause ≢ Failed → t ≡ ended c.time cause [] →
    d ≡ with_queue (record c { time = t }) c.queue → Each (λ i. IsDue i.due) d.queue →
    IsSeatOf d (record { entries = l.entries; end = LogEnded cause }) (ended_member (member_of c l) cause) c.queue
ended_seat c d l t cause seat live other time is dues =
    let text : [] ≡ text_of l.end = sym (ap text_of seat.ends ∙ live_text (member_of c l) live) in
    refreshed (record c { time = t }) d (record { entries = l.entries; end = LogEnded cause }) (ended_member (member_of c l) cause)
    (subst IsFed (sym time) (ended_stands c.time cause seat.clock.fed live)) is dues
    (ended_log (record { time = c.time; seq = c.seq; log = l.entries; text = [] }) cause other ∙ ap (λ (x : Fed). end_of (record { time = x; seq = c.seq; log = l.entries; text = [] })) (sym time))
    (λ i. record { time = time i; seq = c.seq; log = l.entries; text = text i })

-- and after a failure
pub failed_seat : (c d : Clock) (l : FedLog) (t : Fed) (text : List ℕ) → IsSeat c l → is_live c.time.phase ≡ true → t ≡ ended c.time Failed [] →
    d ≡ with_queue (record c { time = t }) c.queue → Each (λ i. IsDue i.due) d.queue →
    IsSeatOf d (record { entries = l.entries; end = FailedText text }) (failed_member (member_of c l) text) c.queue
failed_seat c d l t text seat live time is dues =
    refreshed (record c { time = t }) d (record { entries = l.entries; end = FailedText text }) (failed_member (member_of c l) text)
    (subst IsFed (sym time) (ended_stands c.time Failed seat.clock.fed live)) is dues
    (ap (λ (x : Fed). end_of (record { time = x; seq = c.seq; log = l.entries; text = text })) (sym time))
    (λ i. record { time = time i; seq = c.seq; log = l.entries; text = text })

-- a clock and a log after a grant at the event
pub granted_seat : (c : Clock) (l : FedLog) (t : Fed) (entries : List LogEntry) (items queue : List Parcel) → IsSeat c l → is_asking c.time.phase ≡ true →
    t ≡ granted_at c.time c.event → items ≡ filter (is_due (cut_at c.time c.event)) c.queue →
    queue ≡ filter (λ i. not (is_due (cut_at c.time c.event) i)) c.queue →
    entries ≡ l.entries ++ (record { grant = grant_at c.time c.event; items = items }) ∷ [] →
    IsSeatOf (record { time = t; seq = c.seq; queue = queue; event = c.event }) (record { entries = entries; end = Open Running })
    (granted_member (member_of c l) (dues_of c.queue) (filter (is_due (cut_of c.time (dues_of c.queue))) c.queue))
    (filter (λ i. not (is_due (cut_of c.time (dues_of c.queue)) i)) c.queue)
granted_seat c l t entries items queue seat asks time handed left logged =
    let at = seat.clock.event in
    let f : Fed = c.time in
    let e : At = event_of f (dues_of c.queue) in
    let now : t ≡ granted_at f e = time ∙ ap (granted_at f) at in
    let due : items ≡ filter (is_due (cut_at f e)) c.queue = handed ∙ ap (λ (s : At). filter (is_due (cut_at f s)) c.queue) at in
    let log : entries ≡ l.entries ++ (record { grant = grant_at f e; items = filter (is_due (cut_at f e)) c.queue }) ∷ [] =
    logged ∙ (λ i. l.entries ++ (record { grant = grant_at f (at i); items = due i }) ∷ []) in
    let rest : queue ≡ filter (λ (i : Parcel). not (is_due (cut_at f e) i)) c.queue = left ∙ ap (λ (s : At). filter (λ (i : Parcel). not (is_due (cut_at f s) i)) c.queue) at in
    let text : [] ≡ text_of l.end = sym (ap text_of seat.ends ∙ live_text (member_of c l) (asking_lives c.time.phase asks)) in
    record {
      seat = record {
        clock = record {
          fed = subst IsFed (sym now) (granted_stands f c.queue seat.clock.fed seat.clock.dues asks);
          dues = λ i among. seat.clock.dues i (in_filter (λ (j : Parcel). not (is_due (cut_at f c.event) j)) c.queue i (subst (λ (q : List Parcel). IsIn i q) left among)).0;
          event = at ∙ sym (ap (λ (x : Fed). event_of x (dues_of queue)) now);
        };
        ends = sym (ap (λ (x : Fed). end_of (record { time = x; seq = c.seq; log = entries; text = [] })) now);
      };
      member = λ i. record { time = now i; seq = c.seq; log = log i; text = text i };
      queued = rest;
    }
