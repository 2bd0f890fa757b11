use Rattle.std.proofs.Common.{◌≡◌, ◌∙◌, ℕ, ap, refl, List, [], Option, Some, None, option_map, codes}
use Rattle.std.specs.Prelude.{unwrap_or}
use Rattle.std.specs.Borrow.{Bor}
use Rattle.clap.specs.Words.{found_of}
use Rattle.clap.proofs.WalkLemmas.{first_value-rows}
use Rattle.command_words.proofs.file_given.Goals as goal

text_of : (o : Option (Bor (List ℕ))) (d : Bor (List ℕ)) (t : Option (List ℕ)) → option_map (λ s. s.now) o ≡ t → d.now ≡ []
    → (unwrap_or o d).now ≡ unwrap_or t []
text_of None d t e z = z ∙ ap (λ (u : Option (List ℕ)). unwrap_or u []) e
text_of (Some b) d t e z = ap (λ (u : Option (List ℕ)). unwrap_or u []) e

pub returns : goal.returns
returns c = ap (λ (b : Bor (List ℕ)). b.now) c.unwrap_or.ensures ∙ text_of _ _ _ (c.get_str.ensures ∙ first_value-rows (found_of c.args.matches.now) (codes "file")) refl
