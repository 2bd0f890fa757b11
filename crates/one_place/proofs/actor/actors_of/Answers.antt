use Rattle.std.proofs.Common.{◌≡◌, ◌≤◌, ◌+◌, ◌++◌, ◌∷◌, ◌∙◌, List, [], refl, ap, length, drop, arith, sym, subst}
use Rattle.std.specs.Prelude.{slice_index_or}
use Rattle.std.proofs.lemmas.List.{get_or_read, length_push}
use Rattle.std.specs.Vec.Iter.{into_iter_items}
use Rattle.fed_script.specs.Script.{Course}
use Rattle.interface_names.specs.Federate.{interface_count}
use Rattle.interface_names.specs.Limits.{most_interfaces}
use Rattle.federation_plan.specs.Interfaces.{blank_federate, federate_at}
use Rattle.one_place.specs.declared.actor.Actor.{Actor}
use Rattle.interface_names.specs.declared.records.FederateRecord.{FederateRecord}
use Rattle.one_place.specs.Reference.{first_sight}
use Rattle.one_place.specs.Run.{first_actors}
use Rattle.one_place.proofs.Starting.{actors_more}
use Rattle.one_place.proofs.actor.actors_of.Goals as goal

pub loop-script-init : goal.loop-script-init
loop-script-init c =
    let none : c.in_ok-actors.actors.items ≡ [] = c.in_ok-actors.ensures.items in
    let scripts : into_iter_items c.into_iter-script-iterator.result ≡ c.args.scripts = c.into_iter-script-iterator.ensures.into_iter_gives.0 ∙ c.into_vec-script-items.ensures in
    let each : length c.args.scripts ≡ length c.args.federates.now = c.requires.each in
    let many = ap length scripts in
    let nothing = ap length none in
    record { count = omega (arith, many, nothing, each); more = rw none refl }

pub first_view-requires : goal.first_view-requires
first_view-requires c =
    let feds : List FederateRecord = c.args.federates.now in
    let steps : into_iter_items c.loop-script.script-iterator ≡ c.in-Some.script ∷ into_iter_items c.next.new.self = c.in-Some.ensures.steps.0 in
    let rest = ap length steps in
    let count : length c.loop-script.actors.items + length (into_iter_items c.loop-script.script-iterator) ≡ length feds = c.loop-script.invariant.count in
    let at = c.len.ensures in
    let here : c.index-federates-len.result ≡ federate_at feds c.len.result =
    get_or_read feds c.len.result c.index-federates-len.result (omega (arith, rest, count, at, c.loop-script.actors.ok.0)) c.index-federates-len.is blank_federate in
    subst (λ (fed : FederateRecord). interface_count fed ≤ most_interfaces) (sym here) (c.requires.federates.interfaces c.len.result)

pub loop-script-preserved : goal.loop-script-preserved
loop-script-preserved c =
    let feds : List FederateRecord = c.args.federates.now in
    let actors : List Actor = c.loop-script.actors.items in
    let steps : into_iter_items c.loop-script.script-iterator ≡ c.in-Some.script ∷ into_iter_items c.next.new.self = c.in-Some.ensures.steps.0 in
    let rest = ap length steps in
    let count : length actors + length (into_iter_items c.loop-script.script-iterator) ≡ length feds = c.loop-script.invariant.count in
    let at : c.len.result ≡ length actors = let len = c.len.ensures in omega (arith, len, c.loop-script.actors.ok.0) in
    let view : c.in_ok-view.view ≡ first_sight (slice_index_or feds (length actors) c.index-federates-len.result) =
    c.in_ok-view.ensures ∙ ap first_sight (c.index-federates-len.is ∙ ap (λ k. slice_index_or feds k c.index-federates-len.result) at) in
    let now : c.push.new.self.items ≡ actors ++ (record { script = c.in-Some.script; view = first_sight (slice_index_or feds (length actors) c.index-federates-len.result) }) ∷ [] =
    c.in_ok-push.ensures.items ∙ (λ i. actors ++ (record { script = c.in-Some.script; view = view i }) ∷ []) in
    let pushed : length c.push.new.self.items ≡ length actors + 1 = ap length now ∙ length_push actors _ in
    record {
      count = omega (arith, pushed, count, rest);
      more =
          actors_more feds actors c.push.new.self.items c.in-Some.script (into_iter_items c.next.new.self) c.index-federates-len.result (omega (arith, count, rest)) now
          ∙ ap (λ (xs : List Course). actors ++ first_actors (drop (length actors) feds) xs) (sym steps) ∙ c.loop-script.invariant.more;
    }
