-- The first word that gives something stands in the part at the place, behind it, or in a later round.
use Rattle.std.proofs.Common.{◌≡◌, ◌-◌, suc, refl, ap, sym, ◌∙◌, drop, Some, None, arith}
use Rattle.std.specs.Prelude.{find}
use Rattle.std.specs.Option.{option_copied}
use Rattle.std.specs.List.{repeat}
use Rattle.fed_script.specs.Rounds.{rest_of, unrolled}
use Rattle.fed_script.specs.Script.{gives}
use Rattle.fed_script.proofs.Search.{find_copies, find_rest, behind_place}
use Rattle.fed_script.proofs.rounds.+given.Goals as goal

pub Rounds::first_given-returns-in-Some : goal.Rounds::first_given-returns-in-Some
Rounds::first_given-returns-in-Some t c =
    let a = c.self.inside in
    let p = gives c.args.view.now in
    let here : find p (rest_of c.index.result.now) ≡ Some c.in-Some.word.now = sym c.first_given.ensures ∙ ap option_copied c.in-Some.is in
    rw (← c.self.view_is) (rw (find_rest p a.place a.left a.parts.items c.index.result.now c.self.invariant.place c.index.ensures, here) refl)

pub Rounds::first_given-returns-in-Some-first_among : goal.Rounds::first_given-returns-in-Some-first_among
Rounds::first_given-returns-in-Some-first_among t c =
    let a = c.self.inside in
    let p = gives c.args.view.now in
    let here : find p (rest_of c.index.result.now) ≡ None = sym c.first_given.ensures ∙ ap option_copied c.in_default.is in
    let behind : find p (unrolled (drop (suc a.place) a.parts.items)) ≡ Some c.in-Some-first_among.word.now =
    ap (λ ps. find p (unrolled ps)) (sym (behind_place a.place a.parts.items c.deref.result.now c.deref.ensures.value)) ∙ sym c.first_among.ensures ∙ ap option_copied c.in-Some-first_among.is in
    rw (← c.self.view_is) (rw (find_rest p a.place a.left a.parts.items c.index.result.now c.self.invariant.place c.index.ensures, here, behind) refl)

pub Rounds::first_given-returns-then-self-eq0 : goal.Rounds::first_given-returns-then-self-eq0
Rounds::first_given-returns-then-self-eq0 t c =
    let a = c.self.inside in
    let p = gives c.args.view.now in
    let here : find p (rest_of c.index.result.now) ≡ None = sym c.first_given.ensures ∙ ap option_copied c.in_default.is in
    let behind : find p (unrolled (drop (suc a.place) a.parts.items)) ≡ None =
    ap (λ ps. find p (unrolled ps)) (sym (behind_place a.place a.parts.items c.deref.result.now c.deref.ensures.value)) ∙ sym c.first_among.ensures ∙ ap option_copied c.in_default-first_among.is in
    let later : find p (repeat a.left (unrolled a.parts.items)) ≡ None = rw (c.if-self-eq0.true) refl in
    rw (← c.self.view_is) (rw (find_rest p a.place a.left a.parts.items c.index.result.now c.self.invariant.place c.index.ensures, here, behind, later) refl)

pub Rounds::first_given-returns : goal.Rounds::first_given-returns
Rounds::first_given-returns t c =
    let a = c.self.inside in
    let p = gives c.args.view.now in
    let here : find p (rest_of c.index.result.now) ≡ None = sym c.first_given.ensures ∙ ap option_copied c.in_default.is in
    let behind : find p (unrolled (drop (suc a.place) a.parts.items)) ≡ None =
    ap (λ ps. find p (unrolled ps)) (sym (behind_place a.place a.parts.items c.deref.result.now c.deref.ensures.value)) ∙ sym c.first_among.ensures ∙ ap option_copied c.in_default-first_among.is in
    let some : suc (a.left - 1) ≡ a.left = omega arith in
    let later : find p (repeat a.left (unrolled a.parts.items)) ≡ find p (unrolled a.parts.items) =
    ap (λ n. find p (repeat n (unrolled a.parts.items))) (sym some) ∙ find_copies p (a.left - 1) (unrolled a.parts.items) in
    rw (← c.self.view_is) (rw (find_rest p a.place a.left a.parts.items c.index.result.now c.self.invariant.place c.index.ensures, here, behind, later) (c.first_among-2.ensures ∙ ap (λ ps. find p (unrolled ps)) c.as_slice.ensures.value))
