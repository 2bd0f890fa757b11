-- Halts of the federates of a core.
use Rattle.std.proofs.Common.{◌≡◌, ◌<◌, ◌≤◌, ◌+◌, ℕ, zero, suc, false, List, [], ◌∷◌, ◌++◌, length, take, drop, refl, ap, sym, ◌∙◌, arith, add-one}
use Rattle.std.specs.Prelude.{slice_set, slice_index_or, ◌==◌}
use Rattle.std.proofs.lemmas.List.{get_or_past}
use Rattle.machine_laws.specs.Machine.{Member, State, blank_member, member_at, with_member, halted_if, halted_from}
use Rattle.federation_plan.specs.Plan.{Federation}
use Rattle.federation_plan.specs.declared.tree.NodeRow.{NodeRow}
use Rattle.federation_plan.specs.Tree.{blank_node, kind_at}
use Rattle.federation_plan.specs.Wires.{is_core_kind, wires_of}

-- the cores that a list has
abbrev pub listed : List ℕ → ℕ → ℕ
listed cores i = slice_index_or cores i 0

-- the plan's cores are its tree's
pub halted_is : (p : Federation) (core f i : ℕ) (ms : List Member) → halted_from (listed p.tree.cores) core f i ms ≡ halted_from (wires_of p).core core f i ms
halted_is p core f i ms = refl

pub halted_length : (cores : List ℕ) (core f i : ℕ) (ms : List Member) → length (halted_from (listed cores) core f i ms) ≡ length ms
halted_length cores core f i [] = refl
halted_length cores core f i (m ∷ ms) = ap suc (halted_length cores core f (suc i) ms)

-- past the last node there is no core
pub no_core : (nodes : List NodeRow) (z : ℕ) → length nodes ≤ z → is_core_kind (kind_at nodes z) ≡ false
no_core nodes z over = ap (λ (n : NodeRow). is_core_kind n.kind) (get_or_past nodes z blank_node over)

-- one more member
halted_more : (cores : List ℕ) (core f i j k : ℕ) (ms : List Member) → i < length ms → k ≡ i + j →
    slice_set (halted_from (listed cores) core f j (take i ms) ++ drop i ms) i
    (halted_if (slice_index_or cores k 0 == core) f (slice_index_or (halted_from (listed cores) core f j (take i ms) ++ drop i ms) i blank_member))
    ≡ halted_from (listed cores) core f j (take (suc i) ms) ++ drop (suc i) ms
halted_more cores core f i j k [] within at = absurd (omega arith)
halted_more cores core f zero j k (m ∷ ms) within at =
    let here : k ≡ j = omega (arith, at) in ap (λ (n : ℕ). halted_if (slice_index_or cores n 0 == core) f m ∷ ms) here
halted_more cores core f (suc i) j k (m ∷ ms) within at =
    ap (λ (more : List Member). halted_if (slice_index_or cores j 0 == core) f m ∷ more) (halted_more cores core f i (suc j) k ms (omega arith) (omega (arith, at)))

pub halted_next : (cores : List ℕ) (core f : ℕ) (before now then_is : State) (i : ℕ) → i < length before.members →
    now ≡ record before { members = halted_from (listed cores) core f 0 (take i before.members) ++ drop i before.members } →
    then_is ≡ with_member now i (halted_if (slice_index_or cores i 0 == core) f (member_at now i)) now.items →
    then_is ≡ record before { members = halted_from (listed cores) core f 0 (take (i + 1) before.members) ++ drop (i + 1) before.members }
halted_next cores core f before now then_is i within was is =
    is ∙ ap (λ (s : State). with_member s i (halted_if (slice_index_or cores i 0 == core) f (member_at s i)) s.items) was
    ∙ (λ k. record before {
      members = (halted_more cores core f i 0 i before.members within (omega arith)
          ∙ ap (λ n. halted_from (listed cores) core f 0 (take n before.members) ++ drop n before.members) (sym (add-one i))) k;
    })

pub halted_count : (cores : List ℕ) (core f : ℕ) (before now : State) (i : ℕ) →
    now ≡ record before { members = halted_from (listed cores) core f 0 (take i before.members) ++ drop i before.members } → length now.members ≡ length before.members
halted_count cores core f before now i is = ap (λ (s : State). length s.members) is ∙ count 0 i before.members
  where
    count : (j n : ℕ) (ms : List Member) → length (halted_from (listed cores) core f j (take n ms) ++ drop n ms) ≡ length ms
    count j zero ms = refl
    count j (suc n) [] = refl
    count j (suc n) (m ∷ ms) = ap suc (count (suc j) n ms)

pub halted_all : (cores : List ℕ) (core f : ℕ) (before now : State) (i : ℕ) → length before.members ≤ i →
    now ≡ record before { members = halted_from (listed cores) core f 0 (take i before.members) ++ drop i before.members } → now ≡ record before { members = halted_from (listed cores) core f 0 before.members }
halted_all cores core f before now i over is = is ∙ (λ k. record before { members = all 0 i before.members over k })
  where
    all : (j n : ℕ) (ms : List Member) → length ms ≤ n → halted_from (listed cores) core f j (take n ms) ++ drop n ms ≡ halted_from (listed cores) core f j ms
    all j zero [] past = refl
    all j (suc n) [] past = refl
    all j zero (m ∷ ms) past = absurd (omega arith)
    all j (suc n) (m ∷ ms) past = ap (λ (l : List Member). halted_if (slice_index_or cores j 0 == core) f m ∷ l) (all (suc j) n ms (omega arith))
