use Rattle.std.proofs.Common.{◌≡◌, ◌⊎◌, ◌∙◌, ℕ, ◌+◌, ◌<◌, ◌≤◌, suc, sym, ap, subst, arith, List, [], ◌++◌, ◌∷◌, length, drop, Err, add-one}
use Rattle.serde_json.specs.declared.value.Value.{Value}
use Rattle.serde_json.specs.View.{view, items_view}
use Rattle.json_reading.specs.Reading.{Read, each_from}
use Rattle.json_reading.specs.declared.refusal.ConfigCause.TheVariants.{OutOfMemory}
use Rattle.json_reading.proofs.Fronts.{with_front, front_ok, front_end, err_step, moved, drop-all}
use Rattle.json_reading.proofs.lists.each.Goals as goal

pub returns-in-Err : goal.returns-in-Err
returns-in-Err g c =
    let read = g.R.Reader.reads c.args.reader.now in
    let vs = c.args.list.now in
    let i = c.loop-place.place in
    let xs = c.loop-place.found in
    let lt : i < length vs = omega (arith, c.loop-place-test.true) in
    let next = moved read xs i vs c.index-list-place.result lt c.index-list-place.is in
    subst (λ (r : Read (List _)). (c.at_place.result.cause ≡ OutOfMemory) ⊎ (r ≡ Err c.at_place.result)) (sym next ∙ c.loop-place.invariant)
    (err_step read xs i (view c.index-list-place.result) (items_view (drop (suc i) vs)) c.in-Err.refusal c.at_place.result c.in-Err.ensures c.at_place.ensures)

pub loop-place-preserved : goal.loop-place-preserved
loop-place-preserved g c =
    let read = g.R.Reader.reads c.args.reader.now in
    let vs = c.args.list.now in
    let i = c.loop-place.place in
    let xs = c.loop-place.found in
    let lt : i < length vs = omega (arith, c.loop-place-test.true) in
    let next = moved read xs i vs c.index-list-place.result lt c.index-list-place.is in
    let step = front_ok read xs i (view c.index-list-place.result) (items_view (drop (suc i) vs)) c.in-Ok.one c.in-Ok.ensures in
    let later : with_front (xs ++ c.in-Ok.one ∷ []) (each_from read (i + 1) (items_view (drop (i + 1) vs))) ≡ each_from read 0 (items_view vs) =
    ap (λ (n : ℕ). with_front (xs ++ c.in-Ok.one ∷ []) (each_from read (i + 1) (items_view (drop n vs)))) (add-one i)
    ∙ (sym (next ∙ step) ∙ c.loop-place.invariant) in
    rw c.in-Ok-push.ensures.ok later

pub returns : goal.returns
returns g c =
    let read = g.R.Reader.reads c.args.reader.now in
    let vs = c.args.list.now in
    let i = c.loop-place.place in
    let xs = c.loop-place.found in
    let past : length vs ≤ i = omega (arith, c.loop-place-test.false) in
    sym c.loop-place.invariant
    ∙ (ap (λ (us : List Value). with_front xs (each_from read i (items_view us))) (drop-all i vs past) ∙ front_end read xs i)
