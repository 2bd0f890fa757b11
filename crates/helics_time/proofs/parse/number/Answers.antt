use Rattle.std.proofs.Common.{arith, sym, ap, ◌≤◌, ◌<◌, ◌^◌, ◌+◌, ◌*◌, ◌-◌, Bool, cond, length, get_or, Some, None}
use Rattle.std.proofs.lemmas.Bool.{le-ltb}
use Rattle.helics_time.specs.Spelled.{number_of}
use Rattle.helics_time.proofs.Parts.{outgrown}
use Rattle.helics_time.proofs.parse.number.Goals as goal

pub returns-then-number-digit : goal.returns-then-number-digit
returns-then-number-digit c =
    let digits = c.args.digits.now in
    let n = number_of digits in
    let lt : c.loop-place.place < length digits = omega (arith, c.loop-place-test.true) in
    let big : 2 ^ 64 ≤ 10 * c.loop-place.number + (get_or digits c.loop-place.place 0 - 48) = omega (arith, c.if-number-digit.true, c.digit_at-digit.ensures.value) in
    sym (ap (λ (b : Bool). cond b (Some n) None) (le-ltb n (2 ^ 64) (outgrown c.loop-place.number c.loop-place.place digits lt big c.loop-place.invariant)))
