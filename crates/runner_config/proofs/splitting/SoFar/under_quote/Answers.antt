use Rattle.std.proofs.Common.{◌≡◌, ◌==◌, false, [], None, Some, arith, rules}
use Rattle.std.specs.Char.{encode_utf8}
use Rattle.std.proofs.lemmas.Bool.Decides.{nat_tests}
use Rattle.runner_config.proofs.Splits.{letter_ok, letter_char, wide_some, closes}
use Rattle.runner_config.proofs.splitting.SoFar.under_quote.Goals as goal

pub returns-then-c-quote-clause-rest : goal.returns-then-c-quote-clause-rest
returns-then-c-quote-clause-rest c =
    let same : c.args.c ≡ c.args.quote = search rules in
    letter_ok c.args.self c.args.c [] None c.quoted.result c.quoted.ensures.words c.quoted.ensures.word c.quoted.ensures.quote
    (λ rest. rw c.requires.under (closes c.args.quote c.args.c rest c.requires.small same))

pub returns-else-c-quote-clause-rest : goal.returns-else-c-quote-clause-rest
returns-else-c-quote-clause-rest c =
    let other : (c.args.c == c.args.quote) ≡ false = grind (arith, nat_tests) in
    letter_ok c.args.self c.args.c (encode_utf8 c.args.c) c.args.self.quote c.longer.result c.longer.ensures.words c.longer.ensures.word c.longer.ensures.quote
    (λ rest. rw c.requires.under (letter_char (Some c.args.quote) c.args.c rest (λ b large. wide_some c.args.quote b c.requires.small large) other))
