use Rattle.std.proofs.Common.{◌≡◌, take}
use Rattle.std.specs.Prelude.{map}
use Rattle.federation_plan.specs.Wires.{leg_to}
use Rattle.machine_laws.specs.Plan.{item_of}
use Rattle.one_place.proofs.seat.Clock.published.Given as goal

abbrev pub invariant-loop-input : goal.invariant-loop-input
invariant-loop-input l =
    l.items.items ≡ map (item_of l.self.time l.publication.fed l.self.seq) (map (leg_to l.plan.federates l.publication l.value) (take l.input-index l.inputs))
