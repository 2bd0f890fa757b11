use Rattle.std.proofs.Common.{◌≡◌, true, false, [], None, Some, rules}
use Rattle.std.specs.Char.{encode_utf8}
use Rattle.runner_config.specs.Splitting.{is_gap, is_quote}
use Rattle.runner_config.proofs.Splits.{letter_ok, gap_ok, letter_char, wide_none, opens, parts}
use Rattle.runner_config.proofs.splitting.SoFar.outside.Goals as goal

pub returns-then-is_gap-clause-rest : goal.returns-then-is_gap-clause-rest
returns-then-is_gap-clause-rest c =
    let gap : is_gap c.args.c ≡ true = search rules in
    gap_ok c.args.self c.args.c c.ended.result c.ended.ensures.words c.ended.ensures.word c.ended.ensures.quote
    (λ rest. rw c.requires (parts c.args.c rest gap))

pub returns-then-is_quote-clause-rest : goal.returns-then-is_quote-clause-rest
returns-then-is_quote-clause-rest c =
    let gap : is_gap c.args.c ≡ false = search rules in
    let quote : is_quote c.args.c ≡ true = search rules in
    letter_ok c.args.self c.args.c [] (Some c.args.c) c.quoted.result c.quoted.ensures.words c.quoted.ensures.word c.quoted.ensures.quote
    (λ rest. rw c.requires (opens c.args.c rest gap quote))

pub returns-else-is_quote-clause-rest : goal.returns-else-is_quote-clause-rest
returns-else-is_quote-clause-rest c =
    let gap : is_gap c.args.c ≡ false = search rules in
    let quote : is_quote c.args.c ≡ false = search rules in
    letter_ok c.args.self c.args.c (encode_utf8 c.args.c) c.args.self.quote c.longer.result c.longer.ensures.words c.longer.ensures.word c.longer.ensures.quote
    (λ rest. rw c.requires (letter_char None c.args.c rest wide_none (gap, quote)))
