-- What rounds are after a word of the part at their place has passed.
use Rattle.std.proofs.Common.{◌≡◌, ◌+◌, ◌≤◌, suc, length, List, ◌∷◌, ap, sym, ◌∙◌, add-one, arith}
use Rattle.std.specs.Prelude.{slice_set}
use Rattle.std.proofs.lemmas.List.{length-set}
use Rattle.fed_script.specs.declared.word.Word.{Word}
use Rattle.std.specs.List.{repeat}
use Rattle.fed_script.specs.Rounds.{unrolled}
use Rattle.fed_script.proofs.Parts.{unrolled_set, others_set, all_set, others_of_all, goes_on, begins, ends, round, no_copies}
use Rattle.fed_script.proofs.rounds.+pass.Goals as goal

pub Rounds::pass-invariant_of-self : goal.Rounds::pass-invariant_of-self
Rounds::pass-invariant_of-self t c =
    let a = c.self.inside in
    record {
      place = omega (arith, length-set a.parts.items a.place c.pass.new.self);
      left = c.self.invariant.left;
      fresh = others_set a.place a.parts.items c.pass.new.self c.self.invariant.fresh;
    }

pub Rounds::pass-returns-then-not-pass : goal.Rounds::pass-returns-then-not-pass
Rounds::pass-returns-then-not-pass t c =
    let a = c.self.inside in
    let p = c.index_mut.result.now in
    let q = c.pass.new.self in
    let passes = c.if-not-pass.ensures in
    rw (← c.self.view_is) (
      passes.0,
      goes_on a.place a.left a.parts.items p q passes.0 c.self.invariant.place c.index_mut.ensures.value passes.1 passes.2,
      ap (repeat a.times) (unrolled_set a.place a.parts.items p q c.index_mut.ensures.value passes.2),
    )

pub Rounds::pass-invariant_of-self-then-self-len : goal.Rounds::pass-invariant_of-self-then-self-len
Rounds::pass-invariant_of-self-then-self-len t c =
    let a = c.self.inside in
    let q = c.pass.new.self in
    let passes = c.if-not-pass.ensures in
    record {
      place = omega (arith, length-set a.parts.items a.place q);
      left = c.self.invariant.left;
      fresh = others_of_all (a.place + 1) (slice_set a.parts.items a.place q) (all_set a.place a.parts.items q c.self.invariant.fresh passes.2);
    }

pub Rounds::pass-returns-then-self-len : goal.Rounds::pass-returns-then-self-len
Rounds::pass-returns-then-self-len t c =
    let a = c.self.inside in
    let p = c.index_mut.result.now in
    let q = c.pass.new.self in
    let passes = c.if-not-pass.ensures in
    rw (← c.self.view_is) (
      passes.0,
      rw add-one (begins a.place a.left a.parts.items p q passes.0 c.self.invariant.place c.index_mut.ensures.value passes.1 passes.3 c.self.invariant.fresh passes.2),
      ap (repeat a.times) (unrolled_set a.place a.parts.items p q c.index_mut.ensures.value passes.3),
    )

pub Rounds::pass-invariant_of-self-then-self-gt0 : goal.Rounds::pass-invariant_of-self-then-self-gt0
Rounds::pass-invariant_of-self-then-self-gt0 t c =
    let a = c.self.inside in
    let q = c.pass.new.self in
    let passes = c.if-not-pass.ensures in
    record {
      place = omega (arith, length-set a.parts.items a.place q);
      left = omega arith;
      fresh = others_of_all 0 (slice_set a.parts.items a.place q) (all_set a.place a.parts.items q c.self.invariant.fresh passes.2);
    }

pub Rounds::pass-returns-then-self-gt0 : goal.Rounds::pass-returns-then-self-gt0
Rounds::pass-returns-then-self-gt0 t c =
    let a = c.self.inside in
    let p = c.index_mut.result.now in
    let q = c.pass.new.self in
    let passes = c.if-not-pass.ensures in
    let same = unrolled_set a.place a.parts.items p q c.index_mut.ensures.value passes.3 in
    let fresh = all_set a.place a.parts.items q c.self.invariant.fresh passes.2 in
    let last : length a.parts.items ≤ suc a.place = omega (arith, length-set a.parts.items a.place q) in
    rw (← c.self.view_is) (
      passes.0,
      ends a.place a.left a.parts.items p passes.0 c.self.invariant.place last c.index_mut.ensures.value passes.1
          ∙ ap (λ (ws : List Word). passes.0 ∷ ws) (sym (round a.left (slice_set a.parts.items a.place q) (omega arith) fresh ∙ ap (repeat a.left) same)),
      ap (repeat a.times) same,
    )

pub Rounds::pass-invariant_of-self-2 : goal.Rounds::pass-invariant_of-self-2
Rounds::pass-invariant_of-self-2 t c =
    let a = c.self.inside in
    let q = c.pass.new.self in
    let passes = c.if-not-pass.ensures in
    record {
      place = omega (arith, length-set a.parts.items a.place q);
      left = omega arith;
      fresh = others_of_all 0 (slice_set a.parts.items a.place q) (all_set a.place a.parts.items q c.self.invariant.fresh passes.2);
    }

pub Rounds::pass-returns : goal.Rounds::pass-returns
Rounds::pass-returns t c =
    let a = c.self.inside in
    let p = c.index_mut.result.now in
    let q = c.pass.new.self in
    let passes = c.if-not-pass.ensures in
    let same = unrolled_set a.place a.parts.items p q c.index_mut.ensures.value passes.3 in
    let fresh = all_set a.place a.parts.items q c.self.invariant.fresh passes.2 in
    let last : length a.parts.items ≤ suc a.place = omega (arith, length-set a.parts.items a.place q) in
    let none : a.left ≡ 0 = omega arith in
    rw (← c.self.view_is) (
      passes.0,
      ends a.place a.left a.parts.items p passes.0 c.self.invariant.place last c.index_mut.ensures.value passes.1
          ∙ ap (λ (ws : List Word). passes.0 ∷ ws) (ap (λ n. repeat n (unrolled a.parts.items)) none ∙ no_copies (unrolled a.parts.items)),
      round a.times (slice_set a.parts.items a.place q) (omega arith) fresh,
      ap (repeat a.times) same,
    )
