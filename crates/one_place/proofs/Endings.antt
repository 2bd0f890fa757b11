-- Where runs in other orders end.
use Rattle.std.proofs.Common.{◌≡◌, ℕ, refl, sym, subst, List, [], ◌∷◌, length, Option, None}
use Rattle.std.specs.Prelude.{replicate}
use Rattle.hel_lists.specs.Members.{Each}
use Rattle.fed_script.specs.Script.{Course, IsCourse}
use Rattle.machine_laws.specs.declared.logs.FedLog.{FedLog}
use Rattle.machine_laws.specs.Plan.{Plan, IsPlan}
use Rattle.machine_laws.specs.Machine.{State, IsRun, opening, logs_of}
use Rattle.machine_laws.specs.Machine.Step.{begin}
use Rattle.machine_laws.specs.Laws.{Keeps}
use Rattle.machine_laws.specs.Moves.{Scripts, Play, Moves, IsStill, IsUpToFailure, opening_play}
use Rattle.machine_laws.proofs.Failures.{stops_at_failure}
use Rattle.machine_laws.proofs.Keep.{runs_keep}
use Rattle.machine_laws.proofs.Moves.{moves_run}
use Rattle.machine_laws.proofs.OneEnd.{reference_ends}
use Rattle.federation_plan.specs.Plan.{Federation, IsFederation}
use Rattle.federation_plan.specs.Wires.{wires_of}
use Rattle.one_place.specs.Laws.{OrdersAgree, FailureRuns}
use Rattle.one_place.specs.Reference.{plays_of, HasReferenceLogs}
use Rattle.one_place.specs.Orders.{IsOrdered, HasOrderedLogs, HasLogsUpToFailure, IsUpTo}
use Rattle.one_place.specs.Run.{play_of, begun_stage, Played}
use Rattle.federation_plan.proofs.Wired.{plans_are}
use Rattle.one_place.proofs.Accepting.{times_of}
use Rattle.one_place.proofs.Starting.{begun_calls}

-- a run in an order is a run of moves that goes on until none may move
ordered_moves : (p : Plan) (scripts : Scripts) (w end : Play) (order fs : List ℕ) → IsOrdered order p scripts w fs end → Moves p scripts w fs end × IsStill p scripts end
ordered_moves p scripts w end order [] run = (run.0, subst (λ (v : Play). IsStill p scripts v) (sym run.0) run.1)
ordered_moves p scripts w end order (f ∷ fs) run =
    let rest = ordered_moves p scripts run.0 end _ fs run.3 in
    ((run.0, run.1, rest.0), rest.1)

-- a plan as the laws of runs have it, and its opening
is_plan : (plan : Federation) → IsFederation plan → IsPlan (wires_of plan)
is_plan plan is = plans_are plan is

keeps_begun : (plan : Federation) → IsFederation plan → Keeps (wires_of plan) (opening_play (wires_of plan)).state
keeps_begun plan is =
    let p : Plan = wires_of plan in
    let began : IsRun p (opening p) (begin ∷ []) (opening_play p).state = ((refl, tt), refl) in
    runs_keep p (begin ∷ []) (opening_play p).state (is_plan plan is) began

-- each complete order has the reference logs
pub orders_agree : OrdersAgree
orders_agree plan scripts end fs is each moves still =
    let p : Plan = wires_of plan in
    let reference = reference_ends p (plays_of plan scripts) (opening_play p) end fs (is_plan plan is) (times_of plan scripts each) (keeps_begun plan is) moves still in
    record { feds = reference.0; end = end; run = reference.1; logs_are = refl }

pub ordered_reference : (plan : Federation) (scripts : List Course) (order : List ℕ) (logs : List FedLog) → IsFederation plan → Each IsCourse scripts →
    HasOrderedLogs plan scripts order logs → HasReferenceLogs plan scripts logs
ordered_reference plan scripts order logs is each has =
    let run = ordered_moves (wires_of plan) (plays_of plan scripts) (opening_play (wires_of plan)) has.end order has.feds has.run in
    subst (λ (ls : List FedLog). HasReferenceLogs plan scripts ls) (sym has.logs_are) (orders_agree plan scripts has.end has.feds is each run.0 run.1)

pub unfailed_reference : (plan : Federation) (scripts : List Course) (failed : Option ℕ) (logs : List FedLog) → HasLogsUpToFailure plan scripts failed logs → failed ≡ None → HasReferenceLogs plan scripts logs
unfailed_reference plan scripts failed logs has none =
    let p : Plan = wires_of plan in
    let run = subst (λ (o : Option ℕ). IsUpToFailure p (plays_of plan scripts) (opening_play p) has.feds o has.end) none has.run in
    record { feds = has.feds; end = has.end; run = (stops_at_failure p (plays_of plan scripts)).reference (opening_play p) has.end has.feds run; logs_are = has.logs_are }

-- the steps up to a failure are a run
pub failure_runs : FailureRuns
failure_runs plan scripts failed logs is each has =
    let p : Plan = wires_of plan in
    let run = moves_run p (plays_of plan scripts) (opening_play p) has.end has.feds (is_plan plan is) (times_of plan scripts each) (keeps_begun plan is)
    ((stops_at_failure p (plays_of plan scripts)).moves (opening_play p) has.end has.feds failed has.run) in
    (((refl, tt), run.0), has.logs_are)

-- ---- from the beginning to the logs

opened : (p : Federation) → play_of (begun_stage p) (replicate (length p.federates) 0) ≡ opening_play (wires_of p)
opened p = λ i. record { state = (begun_stage p).state; calls = sym (begun_calls p) i }

pub ordered_logs : (p : Federation) (scripts : List Course) (order : List ℕ) (end : State) (last : List ℕ) (logs : List FedLog) →
    Played (IsOrdered order) (wires_of p) (plays_of p scripts) (play_of (begun_stage p) (replicate (length p.federates) 0)) (record { state = end; calls = last }) → logs ≡ logs_of end →
    HasOrderedLogs p scripts order logs
ordered_logs p scripts order end last logs out are =
    let run = subst (λ (w : Play). Played (IsOrdered order) (wires_of p) (plays_of p scripts) w (record { state = end; calls = last })) (opened p) out in
    record { feds = run.0; end = record { state = end; calls = last }; run = run.1; logs_are = are }

pub failure_logs : (p : Federation) (scripts : List Course) (failed : Option ℕ) (end : State) (last : List ℕ) (logs : List FedLog) →
    Played (IsUpTo failed) (wires_of p) (plays_of p scripts) (play_of (begun_stage p) (replicate (length p.federates) 0)) (record { state = end; calls = last }) → logs ≡ logs_of end →
    HasLogsUpToFailure p scripts failed logs
failure_logs p scripts failed end last logs out are =
    let run = subst (λ (w : Play). Played (IsUpTo failed) (wires_of p) (plays_of p scripts) w (record { state = end; calls = last })) (opened p) out in
    record { feds = run.0; end = record { state = end; calls = last }; run = run.1; logs_are = are }
