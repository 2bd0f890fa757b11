use Rattle.std.proofs.Common.{◌<◌, ◌∙◌, ℕ, ap, sym, subst, arith, [], ◌∷◌, ◌++◌, Bool}
use Rattle.std.specs.Prelude.{if◌then◌else◌}
use Rattle.std.specs.HashMap.{get_by_text}
use Rattle.federation_plan.specs.Tables.{entry}
use Rattle.federation_plan.proofs.Attached.{one_more, names_more}
use Rattle.federation_plan.proofs.tables.attach.Goals as goal

pub add_named-requires : goal.add_named-requires
add_named-requires c = λ r means. subst (λ (n : ℕ). r.index < n) (sym (c.loop-name.invariant.places r.fed)) (c.requires.places _ r means)

pub loop-name-preserved : goal.loop-name-preserved
loop-name-preserved c = record {
  places = λ f. c.in_ok-add_named.ensures.places f ∙ c.loop-name.invariant.places f;
  entries = λ r. one_more _ _ _ _ _ _ (c.requires.fresh r) (c.loop-name.invariant.entries r) (c.in_ok-add_named.ensures.entries r)
      ∙ ap (λ (b : Bool). entry c.args.table.now r ++ (if b then c.args.by ∷ [] else []))
      (names_more (get_by_text c.args.names.now) c.args.targets.now c.loop-name.name-index r c.name-item.result (omega arith) c.name-item.is);
}
