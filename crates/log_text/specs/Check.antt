-- The text of a plan: each line ends with a line feed.
use Rattle.std.specs.Prelude.{ℕ, ◌≡◌, length, List, [], ◌∷◌, ◌++◌, Option, Some, None, codes, decimal}
use Rattle.std.specs.List.{flat_map, range_with_len}
use Rattle.dependency_paths.specs.Paths.{row_of}
use Rattle.interface_names.specs.declared.records.FederateRecord.{FederateRecord}
use Rattle.federation_plan.specs.Interfaces.{federate_at}
use Rattle.federation_plan.specs.Tree.{node_at}
use Rattle.federation_plan.specs.Plan.{Federation, core_at}
use Rattle.federation_plan.specs.Waiting.{IsFirstWait}
use Rattle.log_text.specs.Text.{line}

-- a federate's number and name, the name of its core, and how many ancestors it has
abbrev pub check_line : Federation → ℕ → List ℕ
check_line p f =
    line (codes "federate " ++ decimal f ++ 32 ∷ (federate_at p.federates f).name
    ++ codes " core " ++ (node_at p.tree.nodes (core_at p f)).name
    ++ codes " ancestors " ++ decimal (length (row_of p.ancestors f)))

-- the names of two federates that wait for each other, where there are such
abbrev pub cycle_line : List FederateRecord → Option (ℕ × ℕ) → List ℕ
cycle_line feds None = []
cycle_line feds (Some pair) = line (codes "wait cycle " ++ (federate_at feds pair.0).name ++ 32 ∷ (federate_at feds pair.1).name)

-- how many federates and nodes there are, the federates, and the two that wait for each other
abbrev pub check_of : Federation → Option (ℕ × ℕ) → List ℕ
check_of p pair =
    line (codes "federates " ++ decimal (length p.federates))
    ++ line (codes "nodes " ++ decimal (length p.tree.nodes))
    ++ flat_map (check_line p) (range_with_len 0 (length p.federates))
    ++ cycle_line p.federates pair
    ++ line (codes "ok")

-- a plan's text, with the first pair of federates that wait for each other
pub record IsCheckText (p : Federation) (text : List ℕ) : Type 0 where
  pub pair : Option (ℕ × ℕ)
  pub first : IsFirstWait p pair
  pub is : text ≡ check_of p pair
