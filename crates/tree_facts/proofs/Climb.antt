-- Climbing from a node towards the root.
use Rattle.std.proofs.Common.{◌≡◌, ◌≢◌, inl, inr, ℕ, ◌<◌, Bool, true, false, List, sym, ◌∙◌, ap}
use Rattle.std.specs.Prelude.{if◌then◌else◌}
use Rattle.std.proofs.lemmas.Bool.{eqb-true, ne_eqb, cases_Bool}
use Rattle.tree_facts.specs.Tree.{parent, IsTree, over, IsChild, hop}
use Rattle.tree_facts.specs.Hops.{next_hop_of}
use Rattle.tree_facts.specs.declared.hops.Hop.TheVariants.{Here, Up, Child}
use Rattle.tree_facts.proofs.Paths.{over_cases, over_parent, over_self, over_root, over_trans}
use Rattle.tree_facts.proofs.Cuts.{hop_only, hop_up, side_down}

-- on the way from `to` up to `at`, itself included, `from` doesn't stand
pub record IsClimbed (ps : List ℕ) (from to at : ℕ) : Type 0 where
  pub on_path : over ps at to ≡ true
  pub apart : at ≢ from
  pub not_yet : over ps from to ≡ true → over ps from at ≡ true

pub starts : (ps : List ℕ) (from to : ℕ) → IsTree ps → from ≢ to → IsClimbed ps from to to
starts ps from to tree differs = record { on_path = over_self ps to tree; apart = λ same. differs (sym same); not_yet = λ holds. holds }

pub climbs_on : (ps : List ℕ) (from to at : ℕ) → IsTree ps → 0 < at → IsClimbed ps from to at → parent ps at ≢ from → IsClimbed ps from to (parent ps at)
climbs_on ps from to at tree some was differs = record {
  on_path = over_trans ps (parent ps at) at to tree (over_parent ps (parent ps at) at tree (over_self ps (parent ps at) tree)) was.on_path;
  apart = differs;
  not_yet = λ holds. elim (over_cases ps from at tree (was.not_yet holds)) [ inl same ↦ absurd (was.apart (sym same)) | inr above ↦ above ];
}

way_apart : (ps : List ℕ) (z t : ℕ) → z ≢ t → next_hop_of ps z t ≡ (if over ps z t then Child (hop ps z t) else Up)
way_apart ps z t differs = ap (λ (b : Bool). if b then Here else (if over ps z t then Child (hop ps z t) else Up)) (ne_eqb z t differs)

-- the child below which `to` stands was found
pub found_child : (ps : List ℕ) (from to at : ℕ) → IsTree ps → 0 < at → from ≢ to → IsClimbed ps from to at → parent ps at ≡ from →
    (Child at ≡ next_hop_of ps from to) × (at ≡ hop ps from to)
found_child ps from to at tree some differs was here =
    let child : IsChild ps at from = record { not_root = some; parent_is = here } in
    let is : at ≡ hop ps from to = hop_only ps from to at tree (inl child) (side_down ps from at to child ∙ was.on_path) in
    let above : over ps from to ≡ true =
    over_trans ps from at to tree (over_parent ps from at tree (ap (λ (k : ℕ). over ps from k) here ∙ over_self ps from tree)) was.on_path in (
      ap (λ (k : ℕ). Child k) is ∙ sym (way_apart ps from to differs ∙ ap (λ (b : Bool). if b then Child (hop ps from to) else Up) above),
      is,
    )

-- there is none below: the root was reached
pub leads_up : (ps : List ℕ) (from to at : ℕ) → IsTree ps → at ≡ 0 → from ≢ to → IsClimbed ps from to at →
    (Up ≡ next_hop_of ps from to) × (parent ps from ≡ hop ps from to)
leads_up ps from to at tree root differs was =
    let not_over : over ps from to ≡ false = elim (cases_Bool (over ps from to)) [
      | inl holds ↦
          let above : over ps from 0 ≡ true = ap (λ (k : ℕ). over ps from k) (sym root) ∙ was.not_yet holds in
          absurd (was.apart (root ∙ sym (eqb-true from 0 (sym (over_root ps from tree) ∙ above))))
      | inr fails ↦ fails
    ] in (
      sym (way_apart ps from to differs ∙ ap (λ (b : Bool). if b then Child (hop ps from to) else Up) not_over),
      hop_up ps from to not_over,
    )
