-- Numbers grow with their digits.
use Rattle.std.proofs.Common.{◌≡◌, ℕ, ◌<◌, ◌==◌, arith, true, not, List}
use Rattle.std.proofs.lemmas.Bool.Decides.{nat_tests}
use Rattle.helics_time.specs.Spelled.{number_after}
use Rattle.helics_time.proofs.Parts.{grows}

-- a number that is above a count stays above it
pub above : (count n : ℕ) (cs : List ℕ) → count < n → not (number_after n cs == count) ≡ true
above count n cs lt = let le = grows n cs in grind (arith, nat_tests)
