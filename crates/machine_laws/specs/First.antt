-- What a federate sends at a stamp or later isn't due earlier than this.
use Rattle.std.specs.Prelude.{ℕ, ◌+◌, ◌^◌, ◌<◌, ◌≤◌, ◌≢◌, nat_le, ◌==◌, if◌then◌else◌}
use Rattle.helics_time.specs.Time.{max_time, horizon}
use Rattle.helics_time.specs.Stamp.{At, IsStamp, never, next_of, rank}
use Rattle.time_state.specs.Fed.{Fed}
use Rattle.machine_laws.specs.Plan.{Leg, due_of}

-- over the sender's own output delay: the next stamp where there is none
abbrev pub first_by : ℕ → At → At
first_by delay s =
    if delay == 0 then next_of s
    else (if nat_le (s.time + delay) max_time then record { time = s.time + delay; micro = 0 } else never)

-- it has what the laws need of a plan's `first`, where every delay holds the sender's output delay
pub record FirstLaws : Type 0 where
  pub stamps : (delay : ℕ) (s : At) → IsStamp s → IsStamp (first_by delay s)
  pub rises : (delay : ℕ) (s t : At) → IsStamp s → IsStamp t → rank s ≤ rank t → rank (first_by delay s) ≤ rank (first_by delay t)
  pub above : (delay : ℕ) (s : At) → IsStamp s → rank (next_of s) ≤ rank (first_by delay s)
  pub sent : (delay a : ℕ) (leg : Leg) (fed : Fed) → delay ≤ leg.delay → leg.delay < 2 ^ 61 → leg.target ≢ a → fed.last.time < horizon → fed.last.micro < 2 ^ 62 →
      rank (first_by delay fed.last) ≤ rank (due_of fed a leg)
