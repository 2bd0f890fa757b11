-- One input more is cleared, and at the end all are.
use Rattle.std.proofs.Common.{◌≡◌, ◌+◌, ◌∙◌, ap, add-one, arith, length}
use Rattle.std.specs.Prelude.{slice_set}
use Rattle.value_updates.specs.Input.{Input, after, starts_grant, opening}
use Rattle.fed_script.proofs.Lists.{changed, changed_next, changed_all, changed_length}
use Rattle.fed_script.proofs.arrivals.clear_marks.Goals as goal

pub loop-place-preserved : goal.loop-place-preserved
loop-place-preserved c =
    let f = λ (i : Input). after i starts_grant in
    let place = c.loop-place.place in
    let old = c.args.inputs.now in
    let n = changed_next f place old opening (omega arith) in
    let v = c.at_mut.ensures.value opening in
    let l = changed_length f (place + 1) old in
    let e : slice_set c.loop-place.inputs place c.start_grant.new.self ≡ changed f (place + 1) old = rw (add-one) (cc) in
    (e, ap length e ∙ cc, cc)

pub returns : goal.returns
returns c =
    let f = λ (i : Input). after i starts_grant in
    let old = c.args.inputs.now in
    let all = changed_all f old in
    let at_end : c.loop-place.place ≡ length old = omega arith in
    c.loop-place.invariant.0 ∙ ap (λ n. changed f n old) at_end ∙ all
