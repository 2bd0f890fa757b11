use Rattle.std.proofs.Common.{◌<◌, ◌∙◌, refl, arith, length}
use Rattle.dependency_paths.proofs.Closing.{begins, goes_on, closed}
use Rattle.dependency_paths.proofs.Tables.{to_within}
use Rattle.dependency_paths.proofs.links.close_rows.Goals as goal

pub loop-via-init : goal.loop-via-init
loop-via-init c = record { count = refl; closing = begins _ }

pub loop-via-preserved : goal.loop-via-preserved
loop-via-preserved c = record {
  count = c.pass.ensures.count ∙ c.loop-via.invariant.count;
  closing = goes_on _ _ _ _ c.loop-via.invariant.closing (record { is = c.pass.ensures.links });
}

pub returns-clause-paths : goal.returns-clause-paths
returns-clause-paths c = λ a b. (
  c.loop-via.invariant.closing.sound a b,
  closed _ _ _ c.loop-via.invariant.closing (λ x y holds. let below : y < length c.loop-via.rows = to_within _ x y holds in omega arith) a b,
)
