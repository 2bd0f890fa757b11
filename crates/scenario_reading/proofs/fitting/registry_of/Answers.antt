use Rattle.std.proofs.Common.{◌≡◌, ◌∷◌, ◌++◌, [], ◌∙◌, ap, sym, append_assoc, List}
use Rattle.std.proofs.lemmas.Result.{err_from_is_err_and}
use Rattle.std.specs.Vec.Iter.{into_iter_items}
use Rattle.interface_names.specs.declared.records.FederateRecord.{FederateRecord}
use Rattle.scenario_reading.specs.Fitting.{names_refusal}
use Rattle.scenario_reading.proofs.Names.{joined, unjoined_says}
use Rattle.scenario_reading.proofs.fitting.registry_of.Goals as goal

pub loop-federate-preserved : goal.loop-federate-preserved
loop-federate-preserved c =
    let steps : into_iter_items c.loop-federate.federate-iterator ≡ c.in-Some.federate ∷ into_iter_items c.next.new.self = c.in-Some.ensures.steps.0 in
    let more : List FederateRecord = into_iter_items c.next.new.self in
    let before = c.loop-federate.registry in
    record {
      rest =
          ap (λ (r : List FederateRecord). names_refusal r more) c.in_ok-join.ensures.joined
          ∙ sym (joined before c.in-Some.federate more tt tt c.in_ok-join.ensures.says)
          ∙ ap (λ (fs : List FederateRecord). names_refusal before fs) (sym steps)
          ∙ c.loop-federate.invariant.rest;
      all =
          ap (λ (r : List FederateRecord). r ++ more) c.in_ok-join.ensures.joined
          ∙ append_assoc before (c.in-Some.federate ∷ []) more
          ∙ ap (λ (fs : List FederateRecord). before ++ fs) (sym steps)
          ∙ c.loop-federate.invariant.all;
    }

pub returns-in_err-join : goal.returns-in_err-join
returns-in_err-join c =
    let steps : into_iter_items c.loop-federate.federate-iterator ≡ c.in-Some.federate ∷ into_iter_items c.next.new.self = c.in-Some.ensures.steps.0 in
    let before = c.loop-federate.registry in
    let p = err_from_is_err_and c.from_residual.result c.from_residual.ensures.1 in
    rw (p.1, p.2)
    (unjoined_says (λ (r : List FederateRecord). r) c.args.federates before c.in-Some.federate (into_iter_items c.next.new.self) _ c.in_err-join.ensures.says
    (ap (λ (fs : List FederateRecord). names_refusal before fs) (sym steps) ∙ c.loop-federate.invariant.rest))
