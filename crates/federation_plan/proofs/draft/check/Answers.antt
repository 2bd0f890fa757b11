use Rattle.std.specs.HashMap.{get_by_text}
use Rattle.std.proofs.lemmas.Result.{err_from_is_err_and}
use Rattle.federation_plan.proofs.Drafts.{pubs_known, first_reason, second_reason, third_reason, last_reason}
use Rattle.federation_plan.proofs.draft.check.Goals as goal

pub check_kinds-requires-clause-known : goal.check_kinds-requires-clause-known
check_kinds-requires-clause-known c = pubs_known _ (get_by_text c.args.draft.now.publications) c.requires.is.publications_are

pub returns-in_err-check_required : goal.returns-in_err-check_required
returns-in_err-check_required c = let p = err_from_is_err_and c.from_residual.result c.from_residual.ensures.1 in
    rw (p.1, p.2) (first_reason _ _ _ c.requires.is.publications_are c.requires.is.endpoints_are _ c.in_err-check_required.ensures)

pub returns-in_err-check_kinds : goal.returns-in_err-check_kinds
returns-in_err-check_kinds c = let p = err_from_is_err_and c.from_residual-in_err-check_kinds.result c.from_residual-in_err-check_kinds.ensures.1 in
    rw (p.1, p.2) (second_reason _ _ _ c.requires.is.publications_are c.requires.is.endpoints_are _ c.in_ok-check_required.ensures c.in_err-check_kinds.ensures)

pub returns-in_err-check_filters : goal.returns-in_err-check_filters
returns-in_err-check_filters c = let p = err_from_is_err_and c.from_residual-in_err-check_filters.result c.from_residual-in_err-check_filters.ensures.1 in
    rw (p.1, p.2) (third_reason _ _ _ c.requires.is.publications_are c.requires.is.endpoints_are _ c.in_ok-check_required.ensures c.in_ok-check_kinds.ensures c.in_err-check_filters.ensures)

pub returns : goal.returns
returns c = last_reason _ _ _ c.requires.is.publications_are c.requires.is.endpoints_are _ _ _ c.requires.is.sources_are c.requires.is.destinations_are
    c.in_ok-check_required.ensures c.in_ok-check_kinds.ensures c.in_ok-check_filters.ensures c.check_chains.ensures
