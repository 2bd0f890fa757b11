use Rattle.std.proofs.Common.{◌≡◌, ◌∙◌, ℕ, ap, sym, subst, List, length}
use Rattle.due_queue.specs.Item.{Parcel}
use Rattle.federation_plan.specs.Wires.{wires_of}
use Rattle.machine_laws.specs.Machine.{State, member_at, items_in}
use Rattle.machine_laws.specs.Plan.{Call, items_by}
use Rattle.machine_laws.specs.Plan.Call.{publish}
use Rattle.one_place.specs.declared.step.MachineStep.TheVariants.{Publish}
use Rattle.one_place.specs.Machine.{Stage, refusal_at}
use Rattle.one_place.specs.Members.{AreMade}
use Rattle.one_place.proofs.Lawful.{publishing, items_known}
use Rattle.one_place.proofs.machine.Machine.publish.Goals as goal

pub call-requires-clause-made : goal.call-requires-clause-made
call-requires-clause-made c =
    let stage : Stage = record { plan = c.self.inside.plan; state = c.self.inside.members } in
    let s : State = c.self.inside.members in
    let f : ℕ = c.args.f in
    let call : Call = publish c.args.publication c.args.value.now in
    let known = (publishing stage c.args.f c.args.publication c.args.value.now c.self.invariant
    (ap (λ (x : Stage). refusal_at x (Publish c.args.f c.args.publication c.args.value.now)) c.self.view_is ∙ c.requires)).known in
    let time : c.caller-caller.result.now.time ≡ (member_at s f).time = c.caller-caller.ensures.clock.time ∙ ap (λ n. (member_at s n).time) c.from.ensures in
    let seq : c.caller-caller.result.now.seq ≡ (member_at s f).seq = c.caller-caller.ensures.clock.seq ∙ ap (λ n. (member_at s n).seq) c.from.ensures in
    let items : c.in_ok-items.items.items ≡ items_in (wires_of c.self.inside.plan) s f call =
    c.in_ok-items.ensures ∙ (λ k. items_by (wires_of c.self.inside.plan) (time k) f (seq k) call) in
    subst (λ (xs : List Parcel). AreMade (length s.members) f (member_at s f).seq xs) (sym items) (items_known stage f call c.self.invariant known)
