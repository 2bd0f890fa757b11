use Rattle.std.proofs.Common.{◌≡◌, ◌<◌, ◌∙◌, ℕ, List, length, ap, sym, arith}
use Rattle.std.specs.Prelude.{slice_index_or}
use Rattle.helics_time.specs.Stamp.{before, next_of}
use Rattle.dependency_paths.specs.Paths.{row_of}
use Rattle.machine_laws.specs.Plan.{Plan}
use Rattle.machine_laws.specs.Machine.{State, cut_in, event_in}
use Rattle.one_place.specs.Machine.{Stage}
use Rattle.federation_plan.specs.Wires.{wires_of}
use Rattle.one_place.proofs.Lawful.{held_there, not_true}
use Rattle.one_place.proofs.machine.Machine.is_held_at.Goals as goal

pub returns : goal.returns
returns c = λ held.
    let s : State = c.args.self.now.state in
    let p : Plan = wires_of c.args.self.now.plan in
    let f : ℕ = c.args.f in
    let i : ℕ = c.args.place in
    let ancestors : List ℕ = row_of c.args.self.now.plan.ancestors f in
    let row : c.ancestors-ancestors.result.now ≡ ancestors = c.ancestors-ancestors.ensures ∙ ap (λ (x : Stage). row_of x.plan.ancestors f) c.self.view_is in
    let members : c.self.inside.members ≡ s = ap (λ (x : Stage). x.state) c.self.view_is in
    let cut : c.cut.result ≡ cut_in s f = c.cut.ensures ∙ ap (λ (x : State). cut_in x f) members in
    let event : c.event.result ≡ event_in s (slice_index_or ancestors i 0) = c.event.ensures ∙ (λ k. event_in (members k) (slice_index_or (row k) i 0)) in
    let within : i < length ancestors = let many = ap length row in let less = c.if-place-ancestors.false in omega (arith, many, less) in
    let test : c.sends_past.result ≡ before (cut_in s f) (next_of (event_in s (slice_index_or ancestors i 0))) =
    c.sends_past.ensures ∙ (λ k. before (cut k) (next_of (event k))) in
    held_there p s (cut_in s f) ancestors i within (sym test ∙ not_true c.sends_past.result held)
