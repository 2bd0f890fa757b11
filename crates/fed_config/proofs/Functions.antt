-- Functions that agree everywhere are equal.
use Rattle.std.proofs.Common.{◌≡◌}

pub ext : {A B : Type 0} (f g : A → B) → ((x : A) → f x ≡ g x) → f ≡ g
ext f g same = λ i x. same x i
