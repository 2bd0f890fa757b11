-- What a sender's output delay tells of its later items.
use Rattle.std.proofs.Common.{◌≢◌, ℕ, ◌<◌, ◌≤◌, ◌^◌, arith}
use Rattle.std.proofs.lemmas.Bool.Decides.{nat_tests}
use Rattle.helics_time.specs.Time.{horizon}
use Rattle.helics_time.specs.Stamp.{At, IsStamp, next_of, rank}
use Rattle.time_state.specs.Fed.{Fed}
use Rattle.machine_laws.specs.Plan.{Leg, due_of}
use Rattle.machine_laws.specs.First.{first_by, FirstLaws}

-- it is a stamp
stamps : (delay : ℕ) (s : At) → IsStamp s → IsStamp (first_by delay s)
stamps delay s is = (grind (arith, nat_tests), grind (arith, nat_tests))

-- it rises with its stamp
rises : (delay : ℕ) (s t : At) → IsStamp s → IsStamp t → rank s ≤ rank t → rank (first_by delay s) ≤ rank (first_by delay t)
rises delay s t is is_t le = grind (arith, nat_tests)

-- it is above its stamp
above : (delay : ℕ) (s : At) → IsStamp s → rank (next_of s) ≤ rank (first_by delay s)
above delay s is = grind (arith, nat_tests)

-- no item to another is due before it
sent : (delay a : ℕ) (leg : Leg) (fed : Fed) → delay ≤ leg.delay → leg.delay < 2 ^ 61 → leg.target ≢ a → fed.last.time < horizon → fed.last.micro < 2 ^ 62 → rank (first_by delay fed.last) ≤ rank (due_of fed a leg)
sent delay a leg fed holds short other low small = grind (arith, nat_tests)

pub first_laws : FirstLaws
first_laws = record { stamps = stamps; rises = rises; above = above; sent = sent }
