use Rattle.std.proofs.Common.{◌≡◌, ℕ, false, refl, sym, List, codes}
use Rattle.std.specs.Str.{bytes_eq}
use Rattle.std.proofs.lemmas.Bool.{false_from_ne_true}
use Rattle.std.proofs.lemmas.Slice.Eq.{bytes_eq-Decides}
use Rattle.fed_config.proofs.verbs.verb_named.Goals as goal

-- a word that isn't the one of a row
other : (row word : List ℕ) → (word ≡ row → ⊥) → bytes_eq row word ≡ false
other row word differ = false_from_ne_true (bytes_eq row word) (λ e. differ (sym ((bytes_eq-Decides row word).0 e)))

pub returns-in_default : goal.returns-in_default
returns-in_default c =
    let n = c.in_default in
    let word = c.args.word.now in
    rw (
      other (codes "publish") word n.not-publish,
      other (codes "publish_sum") word n.not-publish_sum,
      other (codes "send") word n.not-send,
      other (codes "echo") word n.not-echo,
      other (codes "request") word n.not-request,
      other (codes "advance") word n.not-advance,
      other (codes "iterate") word n.not-iterate,
      other (codes "finish") word n.not-finish,
      other (codes "fail") word n.not-fail,
      other (codes "repeat") word n.not-repeat,
    ) refl
