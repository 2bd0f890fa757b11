-- A repeat is nested less deeply than the parts that it stands in.
use Rattle.std.specs.Prelude.{◌≤◌, max, List, [], ◌∷◌}
use Rattle.std.proofs.Common.{arith}
use Rattle.fed_script.specs.declared.rounds.Part.{Part}
use Rattle.fed_script.specs.declared.rounds.Part.TheVariants.{Word as SingleWord, Repeat}
use Rattle.fed_script.specs.declared.rounds.Rounds.TheDeep.{deep-Part}
use Rattle.fed_script.specs.Rounds.{deepest}
use denote.Param.Weighed.{most}

pub most_le-deepest : (parts : List Part) → max (most deep-Part parts) 0 ≤ deepest parts
most_le-deepest [] = omega arith
most_le-deepest (SingleWord word ∷ parts) = omega (arith, most_le-deepest parts)
most_le-deepest (Repeat r ∷ parts) = omega (arith, most_le-deepest parts)
