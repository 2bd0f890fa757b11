-- The laws of scripts are those of their lists.
use Rattle.fed_script.proofs.Turns.{words_in_turn, echo_answers, progresses}
use Rattle.fed_script.proofs.laws.script_laws.Goals as goal

pub returns : goal.returns
returns c = record { in_turn = words_in_turn; echo = echo_answers; progress = progresses }
