use Rattle.std.proofs.Common.{◌<◌, length, arith}
use Rattle.dependency_paths.proofs.Numbers.{no_numbers, one_more, none_more}
use Rattle.dependency_paths.proofs.Tables.{in_row}
use Rattle.dependency_paths.proofs.ancestors.numbers_in.Goals as goal
use Rattle.dependency_paths.proofs.ancestors.numbers_in.Goals.{then-leads+then-number-but+in_ok-push, else-leads, else-leads-via-then-leads+else-number-but, else-leads-via-else-leads}

pub loop-number-init : goal.loop-number-init
loop-number-init c = rw c.new-numbers.ensures (no_numbers _ _)

pub loop-number-preserved : goal.loop-number-preserved
loop-number-preserved c = elim c.if-leads.branch [
  | then-leads+then-number-but+in_ok-push w ↦
      rw (w.numbers-is, w.in_ok-push.ensures.ok) (one_more _ _ _ _ c.loop-number.invariant w.if-leads.true w.if-number-but.true)
  | else-leads w ↦ rw w.numbers-is (none_more _ _ _ _ c.loop-number.invariant (elim w.else-leads.branch [
    | else-leads-via-then-leads+else-number-but w' ↦ λ apart. absurd (apart w'.if-number-but.false)
    | else-leads-via-else-leads w' ↦ λ apart. w'.if-leads.false
  ]))
]

pub returns-clause-exact : goal.returns-clause-exact
returns-clause-exact c = λ a. (
  (λ among. let is = c.loop-number.invariant.sound a among in (is.1, is.2)),
  (λ is. let below : a < length c.args.row.now = in_row _ a is.1 in c.loop-number.invariant.whole a (omega arith) is.0 is.1),
)
