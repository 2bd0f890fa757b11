use Rattle.std.proofs.Common.{◌≡◌, rules, sym, subst, true}
use Rattle.std.specs.Prelude.{Option, IfSome}
use Rattle.std.specs.Option.{ForSome}
use Rattle.hel_lists.specs.Members.{Each}
use Rattle.helics_time.specs.Stamp.{At, IsDue, at_most}
use Rattle.due_queue.specs.Item.{Parcel}
use Rattle.due_queue.specs.Queue.{IsQueue, first_due}
use Rattle.due_queue.proofs.Dues.{first_due_least, first_due_bounds}
use Rattle.due_queue.proofs.queue.DueQueue.least.Goals as goal

pub returns-clause-least : goal.returns-clause-least
returns-clause-least c =
    let first : c.map.result ≡ first_due c.args.self.now = search rules in
    let queue = subst IsQueue c.self.view_is c.self.invariant in
    subst (λ (r : Option At). IfSome r (λ due. Each (λ (i : Parcel). at_most due i.due ≡ true) c.args.self.now)) (sym first) (first_due_least c.args.self.now queue.in_order)

pub returns-clause-bounds : goal.returns-clause-bounds
returns-clause-bounds c =
    let first : c.map.result ≡ first_due c.args.self.now = search rules in
    let queue = subst IsQueue c.self.view_is c.self.invariant in
    subst (λ (r : Option At). ForSome r IsDue) (sym first) (first_due_bounds c.args.self.now queue.dues)

pub returns-clause-dues : goal.returns-clause-dues
returns-clause-dues c = (subst IsQueue c.self.view_is c.self.invariant).dues
