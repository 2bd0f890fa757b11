-- Links that interfaces make one after another.
use Rattle.std.proofs.Common.{◌≡◌, ℕ, ◌+◌, ◌<◌, ◌≤◌, Bool, true, false, List, length, get_or, take, drop, refl, sym, ◌∙◌, ap}
use Rattle.std.specs.Prelude.{◌||◌, ◌&&◌}
use Rattle.std.specs.List.{list_any}
use Rattle.std.proofs.lemmas.List.Folds.{list_any_more}
use Rattle.interface_names.specs.declared.records.FederateRecord.{FederateRecord}
use Rattle.federation_plan.specs.Interfaces.{Interface, interfaces_in, interfaces_from}
use Rattle.federation_plan.proofs.Named.{none_in, none_from}

pub or_assoc : (x y z : Bool) → ((x || y) || z) ≡ (x || (y || z))
or_assoc true y z = refl
or_assoc false y z = refl

pub or_false : (x : Bool) → (x || false) ≡ x
or_false true = refl
or_false false = refl

-- one more that is tested, and joined where the test `t` holds
pub or_more : (x t y z : Bool) → ((x || (t && y)) || (t && z)) ≡ (x || (t && (y || z)))
or_more true t y z = refl
or_more false true y z = refl
or_more false false y z = refl

-- what the names up to the next one join
pub names_joined : {A : Type 0} (p : A → Bool) (xs : List A) (i : ℕ) (d : A) (first now next t : Bool) → i < length xs → d ≡ get_or xs i d →
    now ≡ (first || (t && list_any p (take i xs))) → next ≡ (now || (t && p d)) → next ≡ (first || (t && list_any p (take (i + 1) xs)))
names_joined p xs i d first now next t below at was is =
    is ∙ ap (λ (b : Bool). b || (t && p d)) was ∙ or_more first t (list_any p (take i xs)) (p d)
    ∙ ap (λ (b : Bool). first || (t && b))
    (ap (λ (y : _). list_any p (take i xs) || p y) at ∙ sym (list_any_more p xs i d below))

module _ {A : Type 0} (p : ℕ → ℕ → Interface A → Bool) where
  -- the links so far, and those that the rest of a federate's interfaces makes
  pub record IsJoiningIn (first now : ℕ → ℕ → Bool) (to n : ℕ) (xs : List A) : Type 0 where
    pub is : (owner : List ℕ) (a f : ℕ) → (now a f || list_any (p a f) (interfaces_in owner to n (drop n xs))) ≡ (first a f || list_any (p a f) (interfaces_in owner to 0 xs))

  -- the same of federates
  pub record IsJoiningFrom (kind : FederateRecord → List A) (first now : ℕ → ℕ → Bool) (to : ℕ) (feds : List FederateRecord) : Type 0 where
    pub is : (a f : ℕ) → (now a f || list_any (p a f) (interfaces_from kind to (drop to feds))) ≡ (first a f || list_any (p a f) (interfaces_from kind 0 feds))

pub ends_in : {A : Type 0} (p : ℕ → ℕ → Interface A → Bool) (first now : ℕ → ℕ → Bool) (to n : ℕ) (xs : List A) → IsJoiningIn p first now to n xs → length xs ≤ n →
    (owner : List ℕ) (a f : ℕ) → now a f ≡ (first a f || list_any (p a f) (interfaces_in owner to 0 xs))
ends_in {A} p first now to n xs was past owner a f =
    sym (or_false (now a f)) ∙ sym (ap (λ (is : List (Interface A)). now a f || list_any (p a f) is) (none_in owner to n xs past)) ∙ was.is owner a f

pub ends_from : {A : Type 0} (p : ℕ → ℕ → Interface A → Bool) (kind : FederateRecord → List A) (first now : ℕ → ℕ → Bool) (to : ℕ) (feds : List FederateRecord) → IsJoiningFrom p kind first now to feds →
    length feds ≤ to → (a f : ℕ) → now a f ≡ (first a f || list_any (p a f) (interfaces_from kind 0 feds))
ends_from {A} p kind first now to feds was past a f =
    sym (or_false (now a f)) ∙ sym (ap (λ (is : List (Interface A)). now a f || list_any (p a f) is) (none_from kind to feds past)) ∙ was.is a f
