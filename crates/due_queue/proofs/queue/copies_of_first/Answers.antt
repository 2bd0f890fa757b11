use Rattle.std.proofs.Common.{◌∙◌}
use Rattle.std.proofs.lemmas.Iterator.{YieldsList-from_take}
use Rattle.std.proofs.lemmas.Iterator.Consumers.{YieldsList-from_deque, YieldsList-end}
use Rattle.due_queue.proofs.queue.copies_of_first.Goals as goal

pub returns-clause-copies : goal.returns-clause-copies
returns-clause-copies c =
    let all = YieldsList-from_take c.args.count (YieldsList-from_deque c.args.items.now.items (cc)) (cc) in
    let end = YieldsList-end all c.loop-item.yielded c.loop-item.item-iterator c.loop-item.yielded_by c.next.result c.next.new.self c.in-None.is c.next.ensures.steps in
    c.loop-item.invariant ∙ end.0
