-- Filters as their federates ask for them.
use Rattle.std.specs.Prelude.{◌≡◌, ℕ, ◌≤◌, List, [], Option}
use Rattle.interface_names.specs.declared.records.FilterKind.{FilterKind}
use Rattle.interface_names.specs.declared.records.FilterKind.TheVariants.{Delay, Drop, Reroute}
use Rattle.helics_time.specs.Time.{longest_span}
use Rattle.interface_names.specs.Limits.{million}

pub record FilterTerms : Type 0 where
  pub name : Option (List ℕ)
  pub source_of : List (List ℕ)
  pub destination_of : List (List ℕ)
  pub kind : FilterKind

-- a delay and a chance are within their bounds, and a filter that reroutes stands before no destination
abbrev pub KeepsBounds : FilterKind → List (List ℕ) → Type 0
KeepsBounds (Delay delay) destinations = delay ≤ longest_span
KeepsBounds (Drop per_million seed) destinations = per_million ≤ million
KeepsBounds (Reroute name) destinations = destinations ≡ []
