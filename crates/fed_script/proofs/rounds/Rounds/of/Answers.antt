-- Rounds that begin.
use Rattle.std.proofs.Common.{arith, ◌<◌, length, [], ◌∷◌, List, ◌≢◌, refl}
use Rattle.fed_script.specs.declared.rounds.Part.{Part}
use Rattle.fed_script.proofs.Parts.{round, others_of_all}
use Rattle.fed_script.proofs.rounds.Rounds.of.Goals as goal

some : (parts : List Part) → parts ≢ [] → 0 < length parts
some [] is = absurd (is refl)
some (part ∷ parts) is = omega arith

pub invariant_of-result : goal.invariant_of-result
invariant_of-result c = record {
  place = some c.args.parts.items c.requires.parts;
  left = omega arith;
  fresh = others_of_all 0 c.args.parts.items c.requires.fresh;
}

pub returns-clause-rest : goal.returns-clause-rest
returns-clause-rest c = round c.args.times c.args.parts.items c.requires.times c.requires.fresh
