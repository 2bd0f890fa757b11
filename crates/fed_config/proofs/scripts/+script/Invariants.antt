use Rattle.std.proofs.Common.{◌≡◌, ◌*◌, ◌+◌, drop, nat_lt}
use Rattle.serde_json.specs.View.{items_view}
use Rattle.fed_config.specs.Names.{known}
use Rattle.fed_config.specs.Scripts.{action_of, body_of}
use Rattle.fed_config.proofs.Bodies.{with_words, words_from}
use Rattle.fed_config.proofs.scripts.+script.Given as goal

abbrev pub decreases-words : goal.decreases-words
decreases-words l = 5 * l.left + 4

abbrev pub decreases-each_action : goal.decreases-each_action
decreases-each_action l = 5 * l.left + 3

abbrev pub decreases-action : goal.decreases-action
decreases-action l = 5 * l.left + 2

abbrev pub decreases-repeat : goal.decreases-repeat
decreases-repeat l = 5 * l.left + 1

abbrev pub decreases-body : goal.decreases-body
decreases-body l = 5 * l.left

abbrev pub invariant-each_action-loop-place : goal.invariant-each_action-loop-place
invariant-each_action-loop-place l =
    with_words l.found (words_from (action_of (known l.names) (nat_lt 0 l.left) (body_of (known l.names) l.left)) l.place (items_view (drop l.place l.list)))
    ≡ words_from (action_of (known l.names) (nat_lt 0 l.left) (body_of (known l.names) l.left)) 0 (items_view l.list)
