use Rattle.std.proofs.Common.{◌≡◌, ◌≤◌, ◌<◌, ℕ, length, get_or}
use Rattle.fed_script.specs.Room.{letters_of, count_for, no_mail}
use Rattle.fed_script.proofs.arrivals.make_room.Given as goal

abbrev pub invariant-loop-endpoint : goal.invariant-loop-endpoint
invariant-loop-endpoint l = record {
  same : letters_of l.inboxes ≡ letters_of l.initial.inboxes;
  length : length l.inboxes ≡ l.endpoint-end;
  room : (e : ℕ) → e < l.endpoint → count_for e l.letters ≤ (get_or l.inboxes e no_mail).spare;
}
