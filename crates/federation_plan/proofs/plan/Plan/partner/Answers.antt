use Rattle.std.proofs.Common.{ℕ, List, get_or, sym, subst}
use Rattle.std.specs.List.Sorted.{IsStrictlyIncreasing}
use Rattle.hel_lists.specs.Members.{IsIn}
use Rattle.hel_lists.proofs.Members.{at_in}
use Rattle.federation_plan.proofs.Waiting.{left_least}
use Rattle.federation_plan.proofs.Sent.{ancestor_within}
use Rattle.federation_plan.proofs.plan.Plan.partner.Goals as goal

pub is_wait_pair-requires-clause-b_first : goal.is_wait_pair-requires-clause-b_first
is_wait_pair-requires-clause-b_first c =
    subst (λ (l : List ℕ). IsIn (get_or c.ancestors-b-items.result.now c.loop-b.b-index 0) l) c.ancestors-b-items.ensures (at_in c.ancestors-b-items.result.now c.loop-b.b-index 0 c.loop-b-test.true)

pub is_wait_pair-requires-clause-b : goal.is_wait_pair-requires-clause-b
is_wait_pair-requires-clause-b c = ancestor_within c.args.self.now c.federates-federates.ensures.plan _ c.args.a
    (subst (λ (l : List ℕ). IsIn (get_or c.ancestors-b-items.result.now c.loop-b.b-index 0) l) c.ancestors-b-items.ensures (at_in c.ancestors-b-items.result.now c.loop-b.b-index 0 c.loop-b-test.true))

pub returns-then-is_wait_pair : goal.returns-then-is_wait_pair
returns-then-is_wait_pair c = (
  c.is_wait_pair.ensures.0 c.if-is_wait_pair.true,
  left_least c.args.self.now c.args.a c.loop-b.b-index c.ancestors-b-items.result.now
      (subst (λ (l : List ℕ). IsStrictlyIncreasing l) (sym c.ancestors-b-items.ensures) (c.federates-federates.ensures.plan.closed.ascending c.args.a))
      c.loop-b-test.true c.loop-b.invariant,
)
