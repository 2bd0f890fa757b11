use Rattle.std.proofs.Common.{◌<◌, ℕ, List, ap, sym, ◌∙◌, subst, length}
use Rattle.std.proofs.lemmas.List.{length-map}
use Rattle.tree_facts.specs.Tree.{IsTree}
use Rattle.federation_plan.specs.Plan.{Federation, core_at}
use Rattle.federation_plan.specs.Tree.{above}
use Rattle.hel_lists.proofs.Members.{at_in}
use Rattle.federation_plan.proofs.Trees.{tree_is, core_known}
use Rattle.federation_plan.proofs.plan.Plan.route.Goals as goal

pub next_hop-requires-clause-tree : goal.next_hop-requires-clause-tree
next_hop-requires-clause-tree c =
    let valid = c.self.invariant.0.valid in
    subst (λ (ps : List ℕ). IsTree ps) (sym (c.as_slice.ensures ∙ c.self.invariant.2)) (tree_is c.self.inside.tree.nodes valid.some valid.placed)

pub next_hop-requires-clause-to : goal.next_hop-requires-clause-to
next_hop-requires-clause-to c =
    let valid = c.self.invariant.0.valid in
    let nodes = c.self.inside.tree.nodes in
    let federate = subst (λ (p : Federation). c.args.f < length p.federates) (sym c.self.view_is) c.requires.federate in
    let within = subst (λ (n : ℕ). c.args.f < n) (sym c.self.invariant.0.cores) federate in
    let known = core_known nodes _ (valid.cores _ (at_in c.self.inside.tree.cores c.args.f 0 within)) in
    let here = subst (λ (z : ℕ). z < length nodes) (sym (c.core_of.ensures ∙ sym (ap (λ (p : Federation). core_at p c.args.f) c.self.view_is))) known in
    subst (λ (ps : List ℕ). c.core_of.result < length ps) (sym (c.as_slice.ensures ∙ c.self.invariant.2))
    (subst (λ (n : ℕ). c.core_of.result < n) (sym (length-map nodes above)) here)
