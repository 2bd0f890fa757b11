use Rattle.std.proofs.Common.{arith}
use Rattle.helics_time.proofs.Parts.{digit_in}
use Rattle.helics_time.proofs.parse.digit_at.Goals as goal

pub overflow_sub-digits : goal.overflow_sub-digits
overflow_sub-digits c = (digit_in c.args.digits.now c.args.place c.requires.digits c.requires.place).0

pub returns-clause-digit : goal.returns-clause-digit
returns-clause-digit c = omega (arith, digit_in c.args.digits.now c.args.place c.requires.digits c.requires.place)
