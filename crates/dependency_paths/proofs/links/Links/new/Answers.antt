use Rattle.dependency_paths.proofs.Tables.{one_empty}
use Rattle.dependency_paths.proofs.links.Links.new.Goals as goal

pub loop-preserved : goal.loop-preserved
loop-preserved c = one_empty _ 512 _ _ c.loop.invariant c.in_ok-push.ensures.items
