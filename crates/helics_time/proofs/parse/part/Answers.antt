use Rattle.std.proofs.Common.{arith, sym, ◌≡◌, ℕ, ◌-◌, ◌*◌, ◌+◌, ◌%◌, suc, get_or, drop, Some, length, ◌<◌, subst}
use Rattle.helics_time.specs.Steps.{part_of}
use Rattle.helics_time.proofs.Parts.{not_whole, no_tenth}
use Rattle.helics_time.proofs.parse.part.Goals as goal

pub returns-then-tenths-ne0-clause-value : goal.returns-then-tenths-ne0-clause-value
returns-then-tenths-ne0-clause-value c =
    let digits = c.args.digits.now in
    let unit = c.args.unit in
    let place : ℕ = c.loop-place.place - 1 in
    let sum = c.loop-place.part in
    let at : c.loop-place.place ≡ suc place = omega (arith, c.loop-place-test.true) in
    let lt : place < length digits = omega (arith, c.loop-place.invariant) in
    let e : part_of unit (drop (suc place) digits) ≡ Some sum = subst (λ (n : ℕ). part_of unit (drop n digits) ≡ Some sum) at c.loop-place.invariant.1 in
    let bad : ((get_or digits place 0 - 48) * unit + sum) % 10 ≡ 0 → ⊥ = subst (λ (v : ℕ). (v * unit + sum) % 10 ≡ 0 → ⊥) c.digit_at.ensures.value c.if-tenths-ne0.true in
    sym (not_whole unit digits place sum lt e (no_tenth _ bad))
