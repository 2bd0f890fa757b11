use Rattle.std.proofs.Common.{◌≡◌, ◌⊎◌, ◌∙◌, ℕ, ◌+◌, ◌<◌, ◌≤◌, suc, sym, ap, subst, arith, List, ◌++◌, length, drop, Err, add-one, nat_lt}
use Rattle.serde_json.specs.declared.value.Value.{Value}
use Rattle.serde_json.specs.Data.{Data}
use Rattle.serde_json.specs.View.{view, items_view}
use Rattle.fed_script.specs.declared.word.Word.{Word}
use Rattle.json_reading.specs.Reading.{Read}
use Rattle.json_reading.specs.declared.refusal.ConfigCause.TheVariants.{OutOfMemory}
use Rattle.json_reading.proofs.Fronts.{drop-all}
use Rattle.fed_config.specs.Names.{known, step_words}
use Rattle.fed_config.specs.Scripts.{Known, action_of, body_of}
use Rattle.fed_config.proofs.Bodies.{with_words, words_from, words_ok, words_end, words_stop, moved}
use Rattle.fed_config.proofs.scripts.+script.Goals as goal

abbrev reads : Known → ℕ → Data → Read (List Word)
reads k left = action_of k (nat_lt 0 left) (body_of k left)

pub each_action-returns-in-Err : goal.each_action-returns-in-Err
each_action-returns-in-Err t c =
    let read = reads (known c.args.names.now) c.args.left in
    let vs = c.args.list.now in
    let i = c.loop-place.place in
    let front = c.loop-place.found in
    let lt : i < length vs = omega (arith, c.loop-place-test.true) in
    let next = moved read front i vs c.index-list-place.result lt c.index-list-place.is in
    subst (λ (r : Read (List Word)). (c.at_place.result.cause ≡ OutOfMemory) ⊎ (r ≡ Err c.at_place.result)) (sym next ∙ c.loop-place.invariant)
    (words_stop read front i (view c.index-list-place.result) (items_view (drop (suc i) vs)) c.in-Err.refusal c.at_place.result c.in-Err.ensures.read c.at_place.ensures)

pub each_action-loop-place-preserved : goal.each_action-loop-place-preserved
each_action-loop-place-preserved t c =
    let read = reads (known c.args.names.now) c.args.left in
    let vs = c.args.list.now in
    let i = c.loop-place.place in
    let front = c.loop-place.found in
    let first = step_words c.in-Ok.step in
    let lt : i < length vs = omega (arith, c.loop-place-test.true) in
    let next = moved read front i vs c.index-list-place.result lt c.index-list-place.is in
    let step = words_ok read front i (view c.index-list-place.result) (items_view (drop (suc i) vs)) first c.in-Ok.ensures.read in
    let later : with_words (front ++ first) (words_from read (i + 1) (items_view (drop (i + 1) vs))) ≡ words_from read 0 (items_view vs) =
    ap (λ (n : ℕ). with_words (front ++ first) (words_from read (i + 1) (items_view (drop n vs)))) (add-one i)
    ∙ (sym (next ∙ step) ∙ c.loop-place.invariant) in
    rw c.in-Ok-push.ensures later

pub each_action-returns : goal.each_action-returns
each_action-returns t c =
    let read = reads (known c.args.names.now) c.args.left in
    let vs = c.args.list.now in
    let i = c.loop-place.place in
    let front = c.loop-place.found in
    let past : length vs ≤ i = omega (arith, c.loop-place-test.false) in
    sym c.loop-place.invariant
    ∙ (ap (λ (us : List Value). with_words front (words_from read i (items_view us))) (drop-all i vs past) ∙ words_end read front i)
