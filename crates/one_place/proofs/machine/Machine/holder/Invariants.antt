use Rattle.std.proofs.Common.{◌≡◌, drop}
use Rattle.dependency_paths.specs.Paths.{row_of}
use Rattle.machine_laws.specs.Machine.{cut_in, holder_in}
use Rattle.federation_plan.specs.Wires.{wires_of}
use Rattle.one_place.proofs.machine.Machine.holder.Given as goal

abbrev pub invariant-loop-ancestor : goal.invariant-loop-ancestor
invariant-loop-ancestor l =
    holder_in (wires_of l.self.plan) l.self.state (cut_in l.self.state l.f) (drop l.ancestor-index (row_of l.self.plan.ancestors l.f))
    ≡ holder_in (wires_of l.self.plan) l.self.state (cut_in l.self.state l.f) (row_of l.self.plan.ancestors l.f)
