use Rattle.std.proofs.Common.{◌≡◌, [], refl, rules}
use Rattle.std.specs.Str.Iter.{chars_rest}
use Rattle.runner_config.specs.Splitting.{words_of}
use Rattle.runner_config.proofs.splitting.split.Goals as goal

pub loop-c-init : goal.loop-c-init
unfolding words_of
loop-c-init c =
    let whole : chars_rest c.into_iter-c-iterator.result ≡ c.args.text.now = search rules in
    let none : c.new.result ≡ [] = search rules in
    record { quote = search rules; rest = rw (whole, none) refl }
