use Rattle.std.proofs.Common.{take, ap, ◌∙◌}
use Rattle.std.specs.Str.{all_ascii_digits}
use Rattle.helics_time.proofs.DigitRuns.{ahead, ahead_fraction}
use Rattle.helics_time.proofs.parse.read_time.Goals as goal

pub in_unit-requires-clause-whole : goal.in_unit-requires-clause-whole
in_unit-requires-clause-whole c =
    ap all_ascii_digits (c.split_at.ensures.front ∙ ap (λ n. take n c.args.text.now) c.digit_count.ensures.value) ∙ ahead c.args.text.now

pub in_unit-requires-clause-fraction : goal.in_unit-requires-clause-fraction
in_unit-requires-clause-fraction c = ap all_ascii_digits c.split_fraction.ensures.digits ∙ ahead_fraction c.split_at.result.1.now
