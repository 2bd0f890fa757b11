-- Words that are repeated are fresh and count so many times.
use Rattle.std.proofs.Common.{◌≡◌, ◌+◌, ◌*◌, ◌-◌, ◌^◌, ◌<◌, min, ap, sym, subst, ◌∙◌, List, [], ◌∷◌, ◌++◌, length, arith}
use Rattle.std.proofs.lemmas.Bool.{eqb-true}
use Rattle.std.proofs.lemmas.List.{append-nil, length-append, nil_from_length}
use Rattle.std.specs.Vec.{vec_len}
use Rattle.fed_script.specs.declared.word.Word.{Word}
use Rattle.fed_script.specs.declared.rounds.Part.{Part}
use Rattle.fed_script.specs.declared.rounds.Part.TheVariants.{Repeat}
use Rattle.std.specs.List.{repeat}
use Rattle.fed_script.specs.Rounds.{unrolled, AreFresh}
use Rattle.fed_script.proofs.Counts.{min_sum, min_times}
use Rattle.fed_script.specs.Script.{KeepTimes}
use Rattle.fed_script.proofs.Passing.{keep_times_append, keep_times_copies}
use Rattle.fed_script.proofs.Parts.{fresh_push, unrolled_push, no_copies, copies_of_none, length_copies}
use Rattle.fed_script.proofs.words.Words.push_repeat.Goals as goal
use Rattle.fed_script.proofs.words.Words.push_repeat.Goals.{then-times-eq0-via-then-times-eq0, then-times-eq0-via-else-times-eq0+then-is_empty}

no_more : (words more : List Word) → more ≡ [] → words ≡ words ++ more
no_more words more none = sym (append-nil words) ∙ ap (λ (ws : List Word). words ++ ws) (sym none)

pub returns-then-times-eq0-clause-ok : goal.returns-then-times-eq0-clause-ok
returns-then-times-eq0-clause-ok c = elim c.then-times-eq0.branch [
  | then-times-eq0-via-then-times-eq0 w ↦
      no_more c.args.self.now (repeat c.args.times c.args.body) (ap (λ n. repeat n c.args.body) w.if-times-eq0.true ∙ no_copies c.args.body)
  | then-times-eq0-via-else-times-eq0+then-is_empty w ↦
      let parts = c.body.inside.parts in
      let zero_len = eqb-true (vec_len parts) 0 (sym w.is_empty.ensures ∙ w.if-is_empty.true) in
      let none : parts.items ≡ [] = nil_from_length parts.items (omega (arith, parts.ok.0)) in
      let no_body : c.args.body ≡ [] = sym c.body.view_is ∙ ap unrolled none in
      no_more c.args.self.now (repeat c.args.times c.args.body) (ap (λ (ws : List Word). repeat c.args.times ws) no_body ∙ copies_of_none c.args.times)
]

pub invariant_of-self-2 : goal.invariant_of-self-2
invariant_of-self-2 c =
    let parts = c.self.inside.parts.items in
    let body = unrolled c.body.inside.parts.items in
    let part : Part = Repeat c.of.result in
    let some : 0 < c.args.times = omega arith in
    let more : c.push.new.self.items ≡ parts ++ part ∷ [] = c.in_ok-push.ensures.items in
    let long : length (unrolled (parts ++ part ∷ [])) ≡ length (unrolled parts) + c.args.times * length body =
    ap length (unrolled_push parts part) ∙ length-append (unrolled parts) c.of.result.all
    ∙ ap (λ ws. length (unrolled parts) + length ws) c.of.ensures.all ∙ ap (λ n. length (unrolled parts) + n) (length_copies c.args.times body) in
    let product : c.saturating_mul.result ≡ min (c.args.times * length body) (2 ^ 64 - 1) =
    c.saturating_mul.ensures ∙ ap (λ n. min (c.body.inside.count * n) (2 ^ 64 - 1)) c.from.ensures
    ∙ ap (λ n. min (n * c.args.times) (2 ^ 64 - 1)) c.body.invariant.count ∙ min_times c.args.times (length body) (2 ^ 64 - 1) some in
    let counted : c.saturating_add-self-inside.result ≡ min (length (unrolled (parts ++ part ∷ []))) (2 ^ 64 - 1) =
    rw long (c.saturating_add-self-inside.ensures ∙ ap (λ n. min (n + c.saturating_mul.result) (2 ^ 64 - 1)) c.self.invariant.count
    ∙ ap (λ n. min (min (length (unrolled parts)) (2 ^ 64 - 1) + n) (2 ^ 64 - 1)) product ∙ min_sum (length (unrolled parts)) (c.args.times * length body) (2 ^ 64 - 1)) in
    record {
      fresh = subst AreFresh (sym more) (fresh_push parts part c.self.invariant.fresh c.of.ensures.rest);
      times = subst KeepTimes (sym (ap unrolled more ∙ unrolled_push parts part ∙ ap (λ (ws : List Word). unrolled parts ++ ws) c.of.ensures.all))
          (keep_times_append (unrolled parts) (repeat c.args.times body) c.self.invariant.times (keep_times_copies c.args.times body c.body.invariant.times));
      count = counted ∙ ap (λ ps. min (length (unrolled ps)) (2 ^ 64 - 1)) (sym more);
    }
