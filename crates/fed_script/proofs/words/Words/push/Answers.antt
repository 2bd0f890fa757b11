-- A word more is fresh and counts one.
use Rattle.std.proofs.Common.{◌≡◌, ◌+◌, ◌-◌, ◌^◌, min, ap, sym, subst, ◌∙◌, [], ◌∷◌, ◌++◌, length, arith}
use Rattle.std.proofs.lemmas.List.{length-append}
use Rattle.fed_script.specs.declared.rounds.Part.{Part}
use Rattle.fed_script.specs.declared.rounds.Part.TheVariants.{Word as SingleWord}
use Rattle.fed_script.specs.Rounds.{unrolled, AreFresh}
use Rattle.fed_script.specs.Script.{KeepTimes}
use Rattle.fed_script.proofs.Passing.{keep_times_append}
use Rattle.fed_script.proofs.Parts.{fresh_push, unrolled_push}
use Rattle.fed_script.proofs.words.Words.push.Goals as goal

pub invariant_of-self-2 : goal.invariant_of-self-2
invariant_of-self-2 c =
    let parts = c.self.inside.parts.items in
    let part : Part = SingleWord c.args.word in
    let more : c.push.new.self.items ≡ parts ++ part ∷ [] = c.in_ok-push.ensures.items in
    let long : length (unrolled (parts ++ part ∷ [])) ≡ length (unrolled parts) + 1 = ap length (unrolled_push parts part) ∙ length-append (unrolled parts) (c.args.word ∷ []) in
    let counted : c.saturating_add-self-inside.result ≡ min (length (unrolled (parts ++ part ∷ []))) (2 ^ 64 - 1) = rw long (omega arith) in
    record {
      fresh = subst AreFresh (sym more) (fresh_push parts part c.self.invariant.fresh tt);
      times = subst KeepTimes (sym (ap unrolled more ∙ unrolled_push parts part)) (keep_times_append (unrolled parts) (c.args.word ∷ []) c.self.invariant.times (c.requires, tt));
      count = counted ∙ ap (λ ps. min (length (unrolled ps)) (2 ^ 64 - 1)) (sym more);
    }
