use Rattle.std.proofs.Common.{◌≡◌, ℕ, List, drop}
use Rattle.std.specs.HashMap.{get_by_text}
use Rattle.std.specs.Option.{option_or}
use Rattle.federation_plan.specs.Interfaces.{interfaces_from, named, publications, pub_name}
use Rattle.federation_plan.proofs.names.publication_names.Given as goal

abbrev pub invariant-loop-f : goal.invariant-loop-f
invariant-loop-f l = (name : List ℕ) →
    option_or (get_by_text l.names name) (named pub_name name (interfaces_from (λ fed. fed.publications) l.f (drop l.f l.federates)))
    ≡ named pub_name name (publications l.federates)
