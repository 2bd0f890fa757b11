-- The laws of one federate's time, together.
use Rattle.std.proofs.Common.{refl}
use Rattle.time_state.specs.Laws.{FedLaws}
use Rattle.time_state.proofs.Stamps.{request_goes, item_above, due_below, item_rises}
use Rattle.time_state.proofs.Events.{at_most_none, at_most_each, greatest}
use Rattle.time_state.proofs.Ranges.{event_is, never_is}
use Rattle.time_state.proofs.Turns.{ends_keep, opening_stands, turn_stands, turns_rise, end_stands}
use Rattle.time_state.proofs.Grants.{cut_low, cut_high, cut_is, grant_steps, grant_stands}
use Rattle.time_state.proofs.Least.{least_decides}

pub fed_laws : FedLaws
fed_laws = record {
  asked = λ f fed waits. (request_goes f fed waits).rises;
  above = item_above;
  due = due_below;
  rises = item_rises;
  at_most_none = at_most_none;
  at_most_each = at_most_each;
  greatest = greatest;
  decides = least_decides;
  step = grant_steps;
  cut_low = cut_low;
  cut_high = cut_high;
  turns = turns_rise;
  grants = λ f dues more. refl;
  ends = ends_keep;
  never_is = never_is;
  event_is = event_is;
  cut_is = cut_is;
  opening = opening_stands;
  turn_stands = turn_stands;
  grant_stands = grant_stands;
  end_stands = end_stands;
}
