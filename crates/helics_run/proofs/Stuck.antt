-- Where a run is stuck two of its federates wait for each other.
use Rattle.std.proofs.Common.{◌≡◌, ◌∙◌, ◌⊎◌, inl, inr, ℕ, zero, suc, ◌<◌, Bool, true, false, List, [], ◌∷◌, length, map, Option, Some, None, refl, sym, ap, subst, arith}
use Rattle.std.specs.Prelude.{if◌then◌else◌, ◌||◌, ◌≢◌, slice_index_or}
use Rattle.std.proofs.lemmas.Bool.{cases_Bool, false≢true}
use Rattle.hel_lists.specs.Members.{Each}
use Rattle.interface_names.specs.declared.records.FederateRecord.{FederateRecord}
use Rattle.time_state.specs.Fed.{is_live}
use Rattle.time_state.specs.declared.Cause.TheVariants.{Finished, Failed, Died, Halted as HaltedCause}
use Rattle.time_state.specs.declared.Phase.{Phase}
use Rattle.time_state.specs.declared.Phase.TheVariants.{Created, Initializing, Entering, Running, Waiting, Ended}
use Rattle.machine_laws.specs.declared.logs.FedLog.{FedLog}
use Rattle.machine_laws.specs.Machine.{Member, blank_member, log_of, end_of}
use Rattle.machine_laws.proofs.Failures.{stops_at_failure}
use Rattle.federation_plan.specs.Plan.{Federation, IsFederation}
use Rattle.federation_plan.specs.Wires.{wires_of}
use Rattle.federation_plan.proofs.Sent.{ancestor_within}
use Rattle.federation_plan.proofs.Wired.{plans_are}
use Rattle.fed_script.specs.Script.{Course, IsCourse}
use Rattle.one_place.specs.Orders.{HasLogsUpToFailure}
use Rattle.one_place.specs.Reference.{plays_of}
use Rattle.one_place.proofs.Accepting.{times_of}
use Rattle.command_words.specs.declared.Verb.{Verb}
use Rattle.command_words.specs.declared.Verb.TheVariants.{Check, Sim}
use Rattle.helics_run.specs.declared.printing.Printed.{Printed}
use Rattle.helics_run.specs.declared.status.Status.TheVariants.{Done, Halted, SinkFault, Stuck}
use Rattle.helics_run.specs.Printing.{Content, PrintsBy, ends_live, is_live_end, status_of}
use Rattle.helics_run.specs.Command.{Prints, IsPlanAt, NoneWait}

-- a log that ends live is that of a live federate
live_end : (m : Member) → is_live_end (end_of m) ≡ true → is_live m.time.phase ≡ true
live_end m live = by_phase m.time.phase refl
  where
    by_phase : (q : Phase) → m.time.phase ≡ q → is_live m.time.phase ≡ true
    by_phase Created is = ap is_live is
    by_phase Initializing is = ap is_live is
    by_phase Entering is = ap is_live is
    by_phase Running is = ap is_live is
    by_phase Waiting is = ap is_live is
    by_phase (Ended Finished) is = let ended = rw is at live in absurd (false≢true ended)
    by_phase (Ended Failed) is = let ended = rw is at live in absurd (false≢true ended)
    by_phase (Ended Died) is = let ended = rw is at live in absurd (false≢true ended)
    by_phase (Ended (HaltedCause f)) is = let ended = rw is at live in absurd (false≢true ended)

-- so one of the members lives
live_member : (ms : List Member) → ends_live (map log_of ms) ≡ true → (f : ℕ) × (f < length ms) × (is_live (slice_index_or ms f blank_member).time.phase ≡ true)
live_member [] live = absurd (false≢true live)
live_member (m ∷ ms) live = elim (cases_Bool (is_live_end (end_of m))) [
  | inl here ↦ (zero, omega arith, live_end m here)
  | inr not ↦
      let rest = live_member ms (later (is_live_end (end_of m)) (ends_live (map log_of ms)) not live) in
      (suc rest.0, (let less = rest.1 in omega (arith, less)), rest.2)
]
  where
    later : (a b : Bool) → a ≡ false → (a || b) ≡ true → b ≡ true
    later true b is some = absurd (false≢true (sym is))
    later false b is some = some

-- the machine has as many settings as there are federates
settings_many : (feds : List FederateRecord) → length (map (λ (x : FederateRecord). x.settings) feds) ≡ length feds
settings_many [] = refl
settings_many (fed ∷ feds) = ap suc (settings_many feds)

-- a run that no failure ended and that ends with a live federate has such a pair
stuck_run : (plan : Federation) (scripts : List Course) (logs : List FedLog) → IsFederation plan → Each IsCourse scripts → HasLogsUpToFailure plan scripts None logs → ends_live logs ≡ true → NoneWait plan → ⊥
stuck_run plan scripts logs is rules has live none =
    let f = live_member has.end.state.members (ap ends_live (sym has.logs_are) ∙ live) in
    (stops_at_failure (wires_of plan) (plays_of plan scripts)).waits has.end has.feds f.0 (plans_are plan is) (times_of plan scripts rules)
    (λ a b anc. (let less = ancestor_within plan is a b anc in let many = settings_many plan.federates in omega (arith, less, many)))
    has.run f.1 f.2 none

-- a run's status
stuck_is : (failed : Option ℕ) (logs : List FedLog) → status_of failed logs ≡ Stuck → (failed ≡ None) × (ends_live logs ≡ true)
stuck_is (Some f) logs is = cc
stuck_is None logs is = (refl, by_live (ends_live logs) is)
  where
    by_live : (b : Bool) → (if b then Stuck else Done) ≡ Stuck → b ≡ true
    by_live true e = refl
    by_live false e = cc

status_is : (failed : Option ℕ) (logs : List FedLog) → (status_of failed logs ≡ Done) ⊎ ((status_of failed logs ≡ Stuck) ⊎ (status_of failed logs ≡ Halted))
status_is (Some f) logs = inr (inr refl)
status_is None logs = by_live (ends_live logs)
  where
    by_live : (b : Bool) → ((if b then Stuck else Done) ≡ Done) ⊎ (((if b then Stuck else Done) ≡ Stuck) ⊎ ((if b then Stuck else Done) ≡ Halted))
    by_live true = inr (inl refl)
    by_live false = inl refl

-- the sink's fault is no stuck run
pub sink_not_stuck : SinkFault ≡ Stuck → ⊥
sink_not_stuck e = cc

sink_not_done : SinkFault ≡ Done → ⊥
sink_not_done e = cc

sink_not_halted : SinkFault ≡ Halted → ⊥
sink_not_halted e = cc

not_both_done : Done ≡ Stuck → ⊥
not_both_done e = cc

-- what is stuck has a plan in which two wait for each other
pub stuck_prints : (content : Content) (words : List (List ℕ)) (p : Printed) → Prints content words p → p.status ≡ Stuck → (plan : Federation) × (IsPlanAt content words plan × ¬ NoneWait plan)
stuck_prints content words p prints stuck = by_verb prints.0.verb refl prints.2
  where
    by_verb : (v : Verb) → prints.0.verb ≡ v → PrintsBy content v prints.0.file p → (plan : Federation) × (IsPlanAt content words plan × ¬ NoneWait plan)
    by_verb Check is printed = absurd (not_both_done (sym printed.text.status ∙ stuck))
    by_verb Sim is printed =
        let kind = stuck_is printed.run.failed printed.run.logs (sym (ap (λ (x : Printed). x.status) printed.run.printed) ∙ stuck) in
        let run = subst (λ (failed : Option ℕ). HasLogsUpToFailure printed.plan printed.scenario.scripts failed printed.run.logs) kind.0 printed.run.run in
        (printed.plan, ((prints.0, prints.1, is, (printed.scenario, (printed.read, printed.is))), λ none. stuck_run printed.plan printed.scenario.scripts printed.run.logs printed.is.is printed.rules run kind.1 none))

-- what is printed has another status than a sink's fault
pub sink_prints : (content : Content) (words : List (List ℕ)) (p : Printed) → Prints content words p → p.status ≡ SinkFault → ⊥
sink_prints content words p prints fault = by_verb prints.0.verb prints.2
  where
    by_verb : (v : Verb) → PrintsBy content v prints.0.file p → ⊥
    by_verb Check printed = sink_not_done (sym fault ∙ printed.text.status)
    by_verb Sim printed =
        let status = sym fault ∙ ap (λ (x : Printed). x.status) printed.run.printed in
        elim (status_is printed.run.failed printed.run.logs) [
          | inl done ↦ sink_not_done (status ∙ done)
          | inr (inl stuck) ↦ sink_not_stuck (status ∙ stuck)
          | inr (inr halted) ↦ sink_not_halted (status ∙ halted)
        ]

-- so what neither failed nor is stuck is done
pub whole_prints : (content : Content) (words : List (List ℕ)) (p : Printed) → Prints content words p → p.status ≢ Halted → ((plan : Federation) → IsPlanAt content words plan → NoneWait plan) → p.status ≡ Done
whole_prints content words p prints lives none = by_verb prints.0.verb prints.2
  where
    by_verb : (v : Verb) → PrintsBy content v prints.0.file p → p.status ≡ Done
    by_verb Check printed = printed.text.status
    by_verb Sim printed =
        let status = ap (λ (x : Printed). x.status) printed.run.printed in
        elim (status_is printed.run.failed printed.run.logs) [
          | inl done ↦ status ∙ done
          | inr (inl stuck) ↦ let there = stuck_prints content words p prints (status ∙ stuck) in absurd (there.1.1 (none there.0 there.1.0))
          | inr (inr halted) ↦ absurd (lives (status ∙ halted))
        ]
