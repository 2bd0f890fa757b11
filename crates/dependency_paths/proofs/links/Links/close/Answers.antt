use Rattle.std.proofs.Common.{refl}
use Rattle.dependency_paths.proofs.Tables.{are_ancestors}
use Rattle.dependency_paths.proofs.links.Links.close.Goals as goal

pub returns : goal.returns
returns c = are_ancestors c.args.self c.as_mut_slice-table.result.now c.close_rows.new.rows c.close_rows.new.rows _ (cc) refl c.close_rows.ensures.count
    c.in_ok-ancestors.ensures.count c.in_ok-ancestors.ensures.rises c.close_rows.ensures.paths c.in_ok-ancestors.ensures.exact
