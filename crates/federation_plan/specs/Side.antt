-- The sides on which filters stand.
use Rattle.std.specs.Prelude.{ℕ, List}
use Rattle.interface_names.specs.Filter.{FilterTerms}
use Rattle.federation_plan.specs.declared.tables.Side.{Side}
use Rattle.federation_plan.specs.declared.tables.Side.TheVariants.{Source, Destination}
use Rattle.federation_plan.specs.Chains.{sources, destinations}

-- the endpoints on whose side a filter stands
abbrev pub names_on : Side → FilterTerms → List (List ℕ)
names_on Source = sources
names_on Destination = destinations
