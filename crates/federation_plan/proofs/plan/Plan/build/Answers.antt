use Rattle.std.proofs.Common.{inr, sym, subst, ◌∙◌}
use Rattle.std.proofs.lemmas.Result.{err_from_is_err_and}
use Rattle.federation_plan.specs.Interfaces.{AreFew}
use Rattle.federation_plan.proofs.Registries.{none_of, few_of, some_of, reason_is}
use Rattle.federation_plan.proofs.plan.Plan.build.Goals as goal

pub returns-then-len-eq0 : goal.returns-then-len-eq0
returns-then-len-eq0 c = inr (none_of _ (sym c.len.ensures.value ∙ c.if-len-eq0.true))

pub check-requires-clause-few : goal.check-requires-clause-few
check-requires-clause-few c = subst AreFew (sym (c.as_slice-records.ensures ∙ c.in_ok-federates.ensures)) (few_of _ c.len.ensures.kept)

pub returns-in_err-check : goal.returns-in_err-check
returns-in_err-check c = let p = err_from_is_err_and c.from_residual-in_err-check.result c.from_residual-in_err-check.ensures.1 in
    rw (p.1, p.2) (reason_is _ _ _ (c.as_slice-records.ensures ∙ c.in_ok-federates.ensures) (some_of _ (λ none. c.if-len-eq0.false (c.len.ensures.value ∙ none))) c.in_err-check.ensures)
