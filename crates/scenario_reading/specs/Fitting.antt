-- What the files of a federation set up, and what speaks against it, first to last: its tree, its names, its plan,
-- and for a run that a federate has no script.
use Rattle.std.specs.Prelude.{ℕ, Bool, true, false, ◌||◌, nat_lt, if◌then◌else◌, List, [], ◌∷◌, ◌++◌, map, count_by, Option, Some, None, Ok}
use Rattle.std.specs.List.{list_any, filter_map, position_from}
use Rattle.std.specs.Option.{is_none, option_map, option_or, option_and_then}
use Rattle.fed_script.specs.Script.{Course}
use Rattle.interface_names.specs.declared.records.FederateRecord.{FederateRecord}
use Rattle.interface_names.specs.Registry.{refusal_of}
use Rattle.json_reading.specs.Reading.{◌>>=◌}
use Rattle.fed_config.specs.declared.config.FederateConfig.{FederateConfig}
use Rattle.federation_plan.specs.declared.refusal.PlanRefusal.{PlanRefusal}
use Rattle.federation_plan.specs.declared.tree.NodeKind.{NodeKind}
use Rattle.federation_plan.specs.declared.tree.NodeRow.{NodeRow}
use Rattle.federation_plan.specs.declared.tree.Tree.{Tree}
use Rattle.federation_plan.specs.Interfaces.{federate_at, publication_interface, endpoint_at, pub_name, end_name}
use Rattle.federation_plan.specs.Refusal as plan
use Rattle.runner_config.specs.declared.reading.Entry.{Entry}
use Rattle.runner_config.specs.declared.reading.Runner.{Runner}
use Rattle.runner_config.specs.Runner.{tree_with}
use Rattle.scenario_reading.specs.declared.refusal.Refusal.{Refusal}
use Rattle.scenario_reading.specs.declared.scene.Setting.{Setting}
use Rattle.scenario_reading.specs.declared.scene.Scenario.{Scenario}
use Rattle.federation_plan.specs.Wires.{is_core_kind}
use Rattle.scenario_reading.specs.Verdict.{Verdict, unless_refused, unrefused}

-- what is read: the federates, the tree, and each federate's script
pub record Scene (S : Type 0) : Type 0 where
  pub federates : List FederateRecord
  pub tree : Tree
  pub scripts : List S

-- a setting and a scenario as contracts see them
abbrev pub setting_seen : Setting → Scene (Option Course)
setting_seen s = record { federates = s.plan.federates; tree = s.plan.tree; scripts = s.scripts }

abbrev pub scenario_seen : Scenario → Scene Course
scenario_seen s = record { federates = s.plan.federates; tree = s.plan.tree; scripts = s.scripts }

abbrev pub federates_of : List FederateConfig → List FederateRecord
federates_of configs = map (λ (c : FederateConfig). c.federate) configs

abbrev pub scripts_of : List FederateConfig → List (Option Course)
scripts_of configs = map (λ (c : FederateConfig). c.script) configs

-- ---- the tree

abbrev pub cores_of : List Entry → List ℕ
cores_of entries = map (λ (e : Entry). e.core) entries

abbrev pub is_broker : NodeKind → Bool
is_broker NodeKind.Broker = true
is_broker other = false

-- a broker below the root, or more than one core
abbrev pub is_deep : List NodeRow → Bool
is_deep nodes = list_any (λ (n : NodeRow). is_broker n.kind) nodes || nat_lt 1 (count_by (λ (n : NodeRow). is_core_kind n.kind) nodes)

abbrev pub tree_refusal : List ℕ → List NodeRow → Option Refusal
tree_refusal file nodes = if is_deep nodes then Some (Refusal.NotBuilt file) else None

-- ---- names

-- a federate can't join earlier ones
abbrev pub join_refusal : List FederateRecord → FederateRecord → Option Refusal
join_refusal earlier f = option_map (λ r. Refusal.Federate f.name r) (refusal_of earlier f)

-- the first of these that can't join the earlier ones and those before it
abbrev pub names_refusal : List FederateRecord → List FederateRecord → Option Refusal
names_refusal earlier [] = None
names_refusal earlier (f ∷ feds) = option_or (join_refusal earlier f) (names_refusal (earlier ++ f ∷ []) feds)

-- ---- the plan

abbrev pub federate_name : List FederateRecord → ℕ → List ℕ
federate_name feds f = (federate_at feds f).name

-- a reason against a plan, told by names
abbrev pub plan_told : List FederateRecord → PlanRefusal → Option Refusal
plan_told feds PlanRefusal.NoFederates = Some Refusal.NoFederates
plan_told feds (PlanRefusal.MissingRequired f name) = Some (Refusal.MissingRequired (federate_name feds f) name)
plan_told feds (PlanRefusal.KindMismatch f input p) = Some (Refusal.KindMismatch (federate_name feds f) (pub_name (publication_interface feds p)))
plan_told feds (PlanRefusal.FilterTarget name) = Some (Refusal.FilterTarget name)
plan_told feds (PlanRefusal.ChainTooLong e) = Some (Refusal.ChainTooLong (end_name (endpoint_at feds e)))
plan_told feds PlanRefusal.OutOfMemory = None

abbrev pub plan_refusal : List FederateRecord → Option Refusal
plan_refusal feds = option_and_then (plan_told feds) (plan.refusal_of feds)

-- ---- scripts

-- the first federate without a script
abbrev pub script_refusal : List FederateRecord → List (Option Course) → Option Refusal
script_refusal feds scripts = option_map (λ f. Refusal.NoScript (federate_name feds f)) (position_from is_none 0 scripts)

-- the scripts that there are
abbrev pub scripts_in : List (Option Course) → List Course
scripts_in scripts = filter_map (λ s. s) scripts

-- ---- the whole

-- what the files set up, or the first reason against it
unfoldable pub setting_of : List ℕ → Runner → List FederateConfig → Verdict (Scene (Option Course))
setting_of file runner configs = do
  built ← unrefused (tree_refusal file runner.nodes)
  federates ← unless_refused (names_refusal [] (federates_of configs)) (federates_of configs)
  planned ← unrefused (plan_refusal federates)
  Ok (record { federates = federates; tree = tree_with runner; scripts = scripts_of configs })

-- the same where each federate is played by its script
unfoldable pub scenario_of : Scene (Option Course) → Verdict (Scene Course)
scenario_of s = do
  scripted ← unrefused (script_refusal s.federates s.scripts)
  Ok (record { federates = s.federates; tree = s.tree; scripts = scripts_in s.scripts })
