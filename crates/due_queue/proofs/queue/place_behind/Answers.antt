use Rattle.std.proofs.Common.{not, rules}
use Rattle.std.proofs.lemmas.List.Sorted.{IsPartitionPoint-from_clause}
use Rattle.due_queue.specs.Order.{is_sooner}
use Rattle.due_queue.proofs.Dues.{insert_at, puts_partitioned}
use Rattle.due_queue.proofs.queue.place_behind.Goals as goal

pub returns-clause-place : goal.returns-clause-place
returns-clause-place c =
    let parted = puts_partitioned c.args.item.now c.args.items.now.items c.requires in
    let point = IsPartitionPoint-from_clause (λ x. not (is_sooner c.args.item.now x)) _ _ c.partition_point.ensures.partitioned parted (λ a r q k. search rules) in
    insert_at c.args.item.now c.args.items.now.items c.partition_point.result (search rules) point.0 point.1
