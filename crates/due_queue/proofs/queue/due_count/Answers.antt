use Rattle.std.proofs.Common.{rules}
use Rattle.std.proofs.lemmas.List.Sorted.{IsPartitionPoint-from_clause}
use Rattle.due_queue.specs.Item.{is_due}
use Rattle.due_queue.proofs.Dues.{dues_partitioned, take_filter}
use Rattle.due_queue.proofs.queue.due_count.Goals as goal

pub returns : goal.returns
returns c =
    let parted = dues_partitioned c.args.cut.now c.args.items.now.items c.requires in
    let point = IsPartitionPoint-from_clause (is_due c.args.cut.now) _ _ c.partition_point.ensures.partitioned parted (λ a r q k. search rules) in
    take_filter (is_due c.args.cut.now) c.args.items.now.items c.partition_point.result (search rules) point.0 point.1
