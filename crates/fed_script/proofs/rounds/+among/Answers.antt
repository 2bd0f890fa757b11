-- Repeated words have what they have once.
use Rattle.std.proofs.Common.{ℕ, ◌≡◌, ◌+◌, ◌-◌, ◌<◌, suc, ap, sym, ◌∙◌, Bool, List, ◌++◌, length, get_or, drop, Some, None, arith}
use Rattle.std.specs.Prelude.{find}
use Rattle.std.specs.Option.{option_copied, option_or}
use Rattle.std.proofs.lemmas.List.{at_drop_more}
use Rattle.std.proofs.lemmas.List.Folds.{find-append}
use Rattle.fed_script.specs.declared.word.Word.{Word}
use Rattle.fed_script.specs.declared.rounds.Part.{Part}
use Rattle.std.specs.List.{repeat}
use Rattle.fed_script.specs.Round.{Round}
use Rattle.fed_script.specs.Rounds.{unrolled, words_of}
use Rattle.fed_script.specs.Script.{gives}
use Rattle.fed_script.proofs.Search.{find_copies}
use Rattle.fed_script.proofs.rounds.+among.Goals as goal

pub Part::first_of_all-returns-in-Repeat : goal.Part::first_of_all-returns-in-Repeat
Part::first_of_all-returns-in-Repeat t c =
    let a = c.rounds.inside in
    let p = gives c.args.view.now in
    let left = c.rounds.invariant.left in
    let some : suc (a.times - 1) ≡ a.times = omega arith in
    c.first_among.ensures ∙ ap (λ ps. find p (unrolled ps)) c.as_slice.ensures.value
    ∙ sym (find_copies p (a.times - 1) (unrolled a.parts.items)) ∙ ap (λ n. find p (repeat n (unrolled a.parts.items))) some
    ∙ ap (λ (r : Round). find p r.all) c.rounds.view_is ∙ ap (λ q. find p (words_of q)) (sym c.in-Repeat.is)

-- from a place on, the first is one of the part there, or of those behind it
find_from : (p : Word → Bool) (parts : List Part) (i : ℕ) (part : Part) → i < length parts → part ≡ get_or parts i part
    → find p (unrolled (drop i parts)) ≡ option_or (find p (words_of part)) (find p (unrolled (drop (i + 1) parts)))
find_from p parts i part within at =
    at_drop_more (λ (ps : List Part). find p (unrolled ps)) parts i part within
    ∙ ap (λ q. find p (words_of q ++ unrolled (drop (i + 1) parts))) (sym at)
    ∙ find-append p (words_of part) (unrolled (drop (i + 1) parts))

pub first_among-returns-in-Some : goal.first_among-returns-in-Some
first_among-returns-in-Some t c =
    let p = gives c.args.view.now in
    let part = c.part-item.result in
    let here : find p (words_of part) ≡ Some c.in-Some.word.now = sym c.first_of_all.ensures ∙ ap option_copied c.in-Some.is in
    let from = find_from p c.args.parts.now c.loop-part.part-index part c.loop-part-test.true c.part-item.is in
    sym (ap (λ o. option_or o (find p (unrolled (drop (c.loop-part.part-index + 1) c.args.parts.now)))) here) ∙ sym from ∙ c.loop-part.invariant

pub first_among-loop-part-preserved : goal.first_among-loop-part-preserved
first_among-loop-part-preserved t c =
    let p = gives c.args.view.now in
    let part = c.part-item.result in
    let here : find p (words_of part) ≡ None = sym c.first_of_all.ensures ∙ ap option_copied c.in_default.is in
    let from = find_from p c.args.parts.now c.loop-part.part-index part c.loop-part-test.true c.part-item.is in
    sym (ap (λ o. option_or o (find p (unrolled (drop (c.loop-part.part-index + 1) c.args.parts.now)))) here) ∙ sym from ∙ c.loop-part.invariant
