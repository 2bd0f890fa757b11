-- The members of a state in which one was changed.
use Rattle.std.proofs.Common.{◌≡◌, ◌≢◌, inl, inr, ℕ, ◌<◌, sym, ◌∙◌, ap, subst, List, length, get_or, set, Option}
use Rattle.std.specs.Prelude.{nat_lt, if◌then◌else◌, Some}
use Rattle.std.proofs.lemmas.Bool.{cases_eq}
use Rattle.std.proofs.lemmas.List.{get_or-set_same, get_or-set_other, set_comm, length-set}
use Rattle.due_queue.specs.Item.{Parcel}
use Rattle.machine_laws.specs.declared.refusal.Unlawful.{Unlawful}
use Rattle.machine_laws.specs.declared.refusal.Unlawful.TheVariants.{StrangeNumber}
use Rattle.machine_laws.specs.Machine.{Member, State, member_at, blank_member, if_known, with_member}

-- the one that was changed
pub same_member : (s : State) (f x : ℕ) (n : Member) (items : List Parcel) → x ≡ f → f < length s.members → member_at (with_member s f n items) x ≡ n
same_member s f x n items same within =
    ap (λ (k : ℕ). get_or (set s.members f n) k blank_member) same ∙ get_or-set_same s.members f n blank_member within

-- and the others
pub other_member : (s : State) (f x : ℕ) (n : Member) (items : List Parcel) → f ≢ x → member_at (with_member s f n items) x ≡ member_at s x
other_member s f x n items differs = get_or-set_other s.members f x n blank_member (λ e. differs (sym e))

-- what holds of the new member, and held of the others, holds of each
pub by_member : (P : Member → Type 0) (s : State) (f x : ℕ) (n : Member) (items : List Parcel) → f < length s.members →
    (x ≡ f → P n) → (x ≢ f → P (member_at s x)) → P (member_at (with_member s f n items) x)
by_member P s f x n items within new old = elim (cases_eq x f) [
  | inl same ↦ subst P (sym (same_member s f x n items same within)) (new same)
  | inr other ↦ subst P (sym (other_member s f x n items (λ e. other (sym e)))) (old other)
]

-- the same federates are known
pub still_known : (s : State) (f g : ℕ) (n : Member) (items : List Parcel) (r : Option Unlawful) → if_known (with_member s f n items) g r ≡ if_known s g r
still_known s f g n items r = ap (λ (k : ℕ). if nat_lt g k then r else Some StrangeNumber) (length-set s.members f n)

-- two changes of different members commute, whatever the items in between
pub members_commute : (s : State) (f g : ℕ) (m n : Member) (xs ys : List Parcel) → f ≢ g → xs ≡ ys →
    with_member (with_member s f m s.items) g n xs ≡ with_member (with_member s g n s.items) f m ys
members_commute s f g m n xs ys differs same =
    let swap : set (set s.members f m) g n ≡ set (set s.members g n) f m = set_comm s.members f g m n differs in
    λ i. record { begun = s.begun; members = swap i; items = same i }
