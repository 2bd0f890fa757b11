-- What the federation calls interfaces that their federates have named.
use Rattle.std.specs.Prelude.{ℕ, List}
use Rattle.interface_names.specs.Federate.{OwnName}
use Rattle.interface_names.specs.Names.{global_name_of}
use Rattle.federation_plan.specs.Interfaces.{Interface}

abbrev pub known_as : {A : Type 0} → (A → OwnName) → Interface A → List ℕ
known_as own i = global_name_of i.owner (own i.item).name (own i.item).global
