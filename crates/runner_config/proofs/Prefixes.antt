-- What stands behind a prefix.
use Rattle.std.proofs.Common.{◌≡◌, ◌∙◌, ℕ, true, false, List, drop, Option, Some, None, MatchOption, option_map, nat_eq, ap, sym, subst, refl}
use Rattle.std.specs.Str.{IsCharBoundary}
use Rattle.std.specs.Borrow.{Bor}
use Rattle.std.specs.List.{starts_with}
use Rattle.std.specs.Str.Pattern.{FindsTextPrefix, StripsPrefix}
use Rattle.std.proofs.lemmas.Str.Pattern.{starts_text}
use Rattle.runner_config.specs.Counts.{after}

pub strips : (prefix word : List ℕ) (r : Option (Bor (List ℕ))) → MatchOption r (FindsTextPrefix prefix word None) (λ x. StripsPrefix (FindsTextPrefix prefix) word x.now)
    → option_map (λ t. t.now) r ≡ after prefix word
strips prefix word None h =
    let no : starts_with nat_eq word prefix ≡ false = sym (starts_text false prefix word h) in
    rw no refl
strips prefix word (Some x) h =
    let yes : starts_with nat_eq word prefix ≡ true = sym (starts_text true prefix word (h.0, h.1, subst (IsCharBoundary word) (sym h.1.0) h.1.2)) in
    rw yes (ap Some (h.2 ∙ ap (λ (k : ℕ). drop k word) h.1.0))
