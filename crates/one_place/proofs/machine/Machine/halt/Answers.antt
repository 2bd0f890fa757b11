use Rattle.std.proofs.Common.{length, ap, ◌∙◌}
use Rattle.machine_laws.specs.Machine.{State}
use Rattle.one_place.proofs.Halting.{halted_length}
use Rattle.one_place.proofs.machine.Machine.halt.Goals as goal

pub invariant_of-self : goal.invariant_of-self
invariant_of-self c =
    record {
      plan = c.self.invariant.plan;
      each =
          ap (λ (s : State). length s.members) c.halt.ensures ∙ halted_length c.as_slice-cores.result.now c.args.core c.args.f 0 c.self.inside.members.members ∙ c.self.invariant.each;
    }
