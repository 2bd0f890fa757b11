use Rattle.std.proofs.Common.{◌≡◌, ◌∙◌, ℕ, ◌+◌, ◌<◌, ◌≤◌, suc, sym, ap, arith, false, ◌||◌, List, [], ◌∷◌, ◌++◌, length, drop, add-one}
use Rattle.serde_json.specs.declared.value.Value.{Value}
use Rattle.serde_json.specs.View.{view, items_view}
use Rattle.json_reading.proofs.Fronts.{drop-all}
use Rattle.runner_config.specs.Counts.{is_broker}
use Rattle.runner_config.specs.Entries.{entries_from, AreInOrder}
use Rattle.runner_config.proofs.Fronts.{with_front, kept, stopped, entries_end, next_value}
use Rattle.runner_config.proofs.Ascending.{AreBelow, push_below, push_entry}
use Rattle.runner_config.proofs.entries.entries.Goals as goal

pub returns-in-Err-clause-told : goal.returns-in-Err-clause-told
returns-in-Err-clause-told c =
    let vs = c.args.list.now in
    let i = c.loop-place.place in
    let lt : i < length vs = omega (arith, c.loop-place-test.true) in
    stopped c.loop-place.met c.loop-place.found i (view c.index-list-place.result) (items_view (drop (suc i) vs)) c.in-Err.refusal
    (items_view (drop i vs)) (entries_from false 0 (items_view vs))
    (next_value vs i c.index-list-place.result lt c.index-list-place.is) c.loop-place.invariant.rest c.in-Err.ensures.told

pub loop-place-preserved : goal.loop-place-preserved
loop-place-preserved c =
    let vs = c.args.list.now in
    let i = c.loop-place.place in
    let xs = c.loop-place.found in
    let met = c.loop-place.met in
    let e = c.in-Ok.entry in
    let lt : i < length vs = omega (arith, c.loop-place-test.true) in
    let all = entries_from false 0 (items_view vs) in
    let later = kept met xs i (view c.index-list-place.result) (items_view (drop (suc i) vs)) e (items_view (drop i vs)) all
    (next_value vs i c.index-list-place.result lt c.index-list-place.is) c.loop-place.invariant.rest c.in-Ok.ensures.told in
    let rest : with_front (xs ++ e ∷ []) (entries_from (met || is_broker e.words) (i + 1) (items_view (drop (i + 1) vs))) ≡ all =
    ap (λ (n : ℕ). with_front (xs ++ e ∷ []) (entries_from (met || is_broker e.words) (i + 1) (items_view (drop n vs)))) (add-one i) ∙ later in
    let below : AreBelow (i + 1) (xs ++ e ∷ []) = push_below i xs e c.in-Ok.ensures.place c.loop-place.invariant.below in
    let places : AreInOrder (xs ++ e ∷ []) = push_entry i xs e c.in-Ok.ensures.place c.loop-place.invariant.below c.loop-place.invariant.places in
    record {
      below = rw c.in_ok-push.ensures.ok below;
      places = rw c.in_ok-push.ensures.ok places;
      rest = rw (c.in_ok-push.ensures.ok, c.has_met-met.ensures) rest;
    }

pub returns-clause-told : goal.returns-clause-told
returns-clause-told c =
    let vs = c.args.list.now in
    let i = c.loop-place.place in
    let xs = c.loop-place.found in
    let past : length vs ≤ i = omega (arith, c.loop-place-test.false) in
    sym c.loop-place.invariant.rest
    ∙ ap (λ (us : List Value). with_front xs (entries_from c.loop-place.met i (items_view us))) (drop-all i vs past)
    ∙ entries_end c.loop-place.met xs i
