use Rattle.std.proofs.Common.{◌≡◌, length}
use Rattle.value_updates.specs.Input.{Input, after, starts_grant}
use Rattle.fed_script.proofs.Lists.{changed}
use Rattle.fed_script.proofs.arrivals.clear_marks.Given as goal

abbrev pub invariant-loop-place : goal.invariant-loop-place
invariant-loop-place l =
    (l.inputs ≡ changed (λ (i : Input). after i starts_grant) l.place l.initial.inputs) × (length l.inputs ≡ l.place-end) × (length l.initial.inputs ≡ l.place-end)
