use Rattle.std.proofs.Common.{rules, ◌∙◌}
use Rattle.hel_outside.proofs.Gained.{gains_part, gains_taken}
use Rattle.hel_outside.proofs.sink.write_all.Goals as goal

-- no fault came before, and this one took nothing
pub returns-in_err-taken-clause-err : goal.returns-in_err-taken-clause-err
returns-in_err-taken-clause-err g c =
    rw c.in_err-taken.ensures.err
    (let part = gains_part _ _ _ _ c.loop-rest.invariant.gained (search rules) in search rules)

pub loop-rest-preserved : goal.loop-rest-preserved
loop-rest-preserved g c =
    record {
      gained = rw c.split_at.ensures.back (gains_taken _ _ _ c.in_ok-taken.taken _ _ c.loop-rest.invariant.gained c.in_ok-taken.ensures.ok);
      quiet = c.in_ok-taken.ensures.quiet ∙ c.loop-rest.invariant.quiet;
    }
