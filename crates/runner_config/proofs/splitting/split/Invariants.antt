use Rattle.std.proofs.Common.{◌≡◌}
use Rattle.std.specs.Str.Iter.{chars_rest}
use Rattle.runner_config.specs.Splitting.{goes_on, words_of, IsOpenOk}
use Rattle.runner_config.proofs.splitting.split.Given as goal

abbrev pub invariant-loop-c : goal.invariant-loop-c
invariant-loop-c l =
    record {
      quote : IsOpenOk l.so_far.quote;
      rest : goes_on l.so_far (chars_rest l.c-iterator) ≡ words_of l.text;
    }
