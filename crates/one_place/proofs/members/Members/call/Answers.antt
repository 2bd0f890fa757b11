use Rattle.std.proofs.Common.{arith}
use Rattle.std.proofs.lemmas.List.{with_items_is}
use Rattle.one_place.proofs.Publishing.{may_call, tried}
use Rattle.one_place.proofs.members.Members.call.Goals as goal

pub call-requires-clause-clocks : goal.call-requires-clause-clocks
call-requires-clause-clocks c =
    (may_call c.args.self.now c.self.inside.begun c.self.inside.clocks.items c.deref_mut.result.now c.self.inside.logs.feds c.args.source c.args.items.items c.deref_mut.ensures.value
    c.self.invariant c.self.view_is c.requires.within c.requires.limits c.requires.made).clocks

pub call-requires-clause-count : goal.call-requires-clause-count
call-requires-clause-count c =
    (may_call c.args.self.now c.self.inside.begun c.self.inside.clocks.items c.deref_mut.result.now c.self.inside.logs.feds c.args.source c.args.items.items c.deref_mut.ensures.value
    c.self.invariant c.self.view_is c.requires.within c.requires.limits c.requires.made).count

pub call-requires-clause-made : goal.call-requires-clause-made
call-requires-clause-made c =
    (may_call c.args.self.now c.self.inside.begun c.self.inside.clocks.items c.deref_mut.result.now c.self.inside.logs.feds c.args.source c.args.items.items c.deref_mut.ensures.value
    c.self.invariant c.self.view_is c.requires.within c.requires.limits c.requires.made).made

pub call-requires-clause-new : goal.call-requires-clause-new
call-requires-clause-new c =
    (may_call c.args.self.now c.self.inside.begun c.self.inside.clocks.items c.deref_mut.result.now c.self.inside.logs.feds c.args.source c.args.items.items c.deref_mut.ensures.value
    c.self.invariant c.self.view_is c.requires.within c.requires.limits c.requires.made).new

pub invariant_of-self : goal.invariant_of-self
invariant_of-self c =
    (tried c.call.result c.args.self.now c.self.inside.begun c.self.inside.clocks.items c.deref_mut.result.now c.call.new.clocks _ c.self.inside.logs.feds c.args.source c.args.items.items
    c.deref_mut.ensures.value (with_items_is c.self.inside.clocks c.call.new.clocks (omega (arith, c.deref_mut.ensures.len, c.call.auto.clocks))) c.self.invariant c.self.view_is
    (may_call c.args.self.now c.self.inside.begun c.self.inside.clocks.items c.deref_mut.result.now c.self.inside.logs.feds c.args.source c.args.items.items c.deref_mut.ensures.value
    c.self.invariant c.self.view_is c.requires.within c.requires.limits c.requires.made)
    c.call.ensures.ok c.call.ensures.clocks c.call.ensures.err).kept

pub returns-clause-ok : goal.returns-clause-ok
returns-clause-ok c =
    (tried c.call.result c.args.self.now c.self.inside.begun c.self.inside.clocks.items c.deref_mut.result.now c.call.new.clocks _ c.self.inside.logs.feds c.args.source c.args.items.items
    c.deref_mut.ensures.value (with_items_is c.self.inside.clocks c.call.new.clocks (omega (arith, c.deref_mut.ensures.len, c.call.auto.clocks))) c.self.invariant c.self.view_is
    (may_call c.args.self.now c.self.inside.begun c.self.inside.clocks.items c.deref_mut.result.now c.self.inside.logs.feds c.args.source c.args.items.items c.deref_mut.ensures.value
    c.self.invariant c.self.view_is c.requires.within c.requires.limits c.requires.made)
    c.call.ensures.ok c.call.ensures.clocks c.call.ensures.err).state

pub returns-clause-err : goal.returns-clause-err
returns-clause-err c =
    (tried c.call.result c.args.self.now c.self.inside.begun c.self.inside.clocks.items c.deref_mut.result.now c.call.new.clocks _ c.self.inside.logs.feds c.args.source c.args.items.items
    c.deref_mut.ensures.value (with_items_is c.self.inside.clocks c.call.new.clocks (omega (arith, c.deref_mut.ensures.len, c.call.auto.clocks))) c.self.invariant c.self.view_is
    (may_call c.args.self.now c.self.inside.begun c.self.inside.clocks.items c.deref_mut.result.now c.self.inside.logs.feds c.args.source c.args.items.items c.deref_mut.ensures.value
    c.self.invariant c.self.view_is c.requires.within c.requires.limits c.requires.made)
    c.call.ensures.ok c.call.ensures.clocks c.call.ensures.err).same
