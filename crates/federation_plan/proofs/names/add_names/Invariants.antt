use Rattle.std.proofs.Common.{◌≡◌, ℕ, List, drop}
use Rattle.std.specs.HashMap.{get_by_text}
use Rattle.std.specs.Option.{option_or}
use Rattle.federation_plan.specs.Interfaces.{interfaces_in, named}
use Rattle.federation_plan.specs.Names.{known_as}
use Rattle.federation_plan.proofs.names.add_names.Given as goal

abbrev pub invariant-loop-index : goal.invariant-loop-index
invariant-loop-index g l = (name : List ℕ) →
    option_or (get_by_text l.names name) (named (known_as g.T.Called.own_name) name (interfaces_in l.owner l.f l.index (drop l.index l.interfaces)))
    ≡ option_or (get_by_text l.fn.names name) (named (known_as g.T.Called.own_name) name (interfaces_in l.owner l.f 0 l.interfaces))
