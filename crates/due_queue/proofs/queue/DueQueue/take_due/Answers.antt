use Rattle.std.proofs.Common.{refl, sym, ◌∙◌}
use Rattle.due_queue.proofs.Dues.{first_not_due, rest_is_queue}
use Rattle.due_queue.proofs.queue.DueQueue.take_due.Goals as goal

pub invariant_of-self : goal.invariant_of-self
invariant_of-self c = rest_is_queue c.pop_front.result _ _ c.pop_front.ensures.items c.self.invariant

pub returns-else-first_is_due-clause-takes : goal.returns-else-first_is_due-clause-takes
returns-else-first_is_due-clause-takes c = rw (← c.self.view_is) (first_not_due c.args.cut c.self.inside.items.items c.self.invariant.in_order (sym c.first_is_due.ensures ∙ c.if-first_is_due.false), refl)

pub returns-else-first_is_due-clause-none : goal.returns-else-first_is_due-clause-none
returns-else-first_is_due-clause-none c =
    rw (← c.self.view_is) ((λ none. first_not_due c.args.cut c.self.inside.items.items c.self.invariant.in_order (sym c.first_is_due.ensures ∙ c.if-first_is_due.false)), (λ each. refl))
