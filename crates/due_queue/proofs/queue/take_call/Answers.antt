use Rattle.std.proofs.Common.{rules, arith, ap, length}
use Rattle.std.proofs.lemmas.Fn.{filter_same}
use Rattle.due_queue.specs.Item.{is_made_by}
use Rattle.due_queue.specs.Queue.{is_made_otherwise}
use Rattle.due_queue.proofs.Dues.{counts}
use Rattle.due_queue.proofs.queue.take_call.Goals as goal

pub returns-clause-after : goal.returns-clause-after
returns-clause-after c = filter_same _ (is_made_otherwise c.args.source c.args.seq) _ (λ x b f' k. search rules) _ _ c.retain.ensures.filtered

pub returns-clause-count : goal.returns-clause-count
returns-clause-count c =
    let after = filter_same _ (is_made_otherwise c.args.source c.args.seq) _ (λ x b f' k. search rules) _ _ c.retain.ensures.filtered in
    let all = counts (is_made_by c.args.source c.args.seq) c.args.items.now.items in
    omega (arith, all, ap length after)
