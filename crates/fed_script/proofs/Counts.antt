-- Counts that stop at a limit.
use Rattle.std.proofs.Common.{ℕ, ◌+◌, ◌*◌, ◌<◌, ◌≤◌, ◌≡◌, min, ap, inl, inr, arith, mul_comm, mul-le-mul_left, mul-le-mul_right}
use Rattle.std.proofs.lemmas.Bool.{cases_lt}

-- a sum of counts
pub min_sum : (a b limit : ℕ) → min (min a limit + min b limit) limit ≡ min (a + b) limit
min_sum a b limit = omega arith

-- a count so many times
pub min_times : (n a limit : ℕ) → 0 < n → min (min a limit * n) limit ≡ min (n * a) limit
min_times n a limit some = elim (cases_lt a (limit + 1)) [
  | inl below ↦
      let whole : min a limit ≡ a = omega arith in
      rw whole (ap (λ k. min k limit) (mul_comm a n))
  | inr above ↦
      let capped : min a limit ≡ limit = omega arith in
      let more : limit * 1 ≤ limit * n = mul-le-mul_left limit (omega arith) in
      let most : 1 * a ≤ n * a = mul-le-mul_right a (omega arith) in
      rw capped (omega arith)
]
