use Rattle.std.proofs.Common.{arith, ap, ◌∙◌}
use Rattle.std.specs.HashMap.{get_by_text}
use Rattle.interface_names.specs.Filter.{FilterTerms}
use Rattle.message_filters.specs.Filter.{reroute_of}
use Rattle.federation_plan.specs.Chains.{filter_of}
use Rattle.hel_lists.proofs.Members.{at_in}
use Rattle.federation_plan.proofs.Reroutes.{refs_more}
use Rattle.federation_plan.proofs.chains.last_end.Goals as goal

pub filter_at-requires : goal.filter_at-requires
filter_at-requires c = c.requires _ (at_in c.args.refs.now c.loop-at.at-index (record { fed = 0; index = 0 }) (omega arith))

pub loop-at-preserved : goal.loop-at-preserved
loop-at-preserved c = refs_more (get_by_text c.args.endpoints.now) c.args.federates.now c.args.refs.now c.loop-at.at-index (record { fed = 0; index = 0 }) _ _ _ (omega arith) c.loop-at.invariant
    (c.reroute_of.ensures ∙ ap (λ (t : FilterTerms). reroute_of (filter_of (get_by_text c.args.endpoints.now) t.kind)) c.filter_at.ensures) c.or-last.ensures
