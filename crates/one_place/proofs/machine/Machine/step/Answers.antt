use Rattle.std.proofs.Common.{◌≡◌, ◌∙◌, Some, refl, sym, ap}
use Rattle.machine_laws.specs.declared.refusal.Unlawful.{Unlawful}
use Rattle.one_place.specs.Step.{step_of}
use Rattle.one_place.specs.Machine.{refusal_at}
use Rattle.federation_plan.specs.Wires.{wires_of}
use Rattle.one_place.proofs.Lawful.{step_condition}
use Rattle.one_place.proofs.machine.Machine.step.Goals as goal

pub returns-in-Some-clause-steps : goal.returns-in-Some-clause-steps
returns-in-Some-clause-steps c =
    let told : refusal_at c.args.self.now c.args.step ≡ Some c.in-Some.refusal = sym c.refusal.ensures ∙ c.in-Some.is in
    record {
      lawful = tt;
      done = tt;
      refused = ((λ other. told), (λ memory. absurd (step_condition (wires_of c.args.self.now.plan) c.args.self.now.state (step_of c.args.step) (told ∙ ap (λ (e : Unlawful). Some e) memory))));
      unchanged = refl;
    }
