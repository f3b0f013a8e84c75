-- `mechanism_lookups::replies::ask` meets its contract. From the laws of Replies.
use Rattle.std.proofs.Common.{rules, arith}
use Rattle.std.proofs.lemmas.Result.{err_from_is_err_and}
use Rattle.client_match.proofs.Laws.Asked.{entry_found, none_found}
use Rattle.mechanism_lookups.proofs.Laws.Replies.{ask_missing, ask_failed, ask_void, ask_third, ask_items, found_few}
use Rattle.mechanism_lookups.proofs.replies.ask.Goals as goal

pub returns-in_err-found : goal.returns-in_err-found
returns-in_err-found c =
    let p = err_from_is_err_and c.from_residual.result c.from_residual.ensures.1 in
    rw (p.1, p.2) (ask_missing _ _ _ _ _ _ _ _ (none_found _ _ _ _ _ _ _ _ c.in_err-found.ensures))

pub returns-then-found-eq2 : goal.returns-then-found-eq2
returns-then-found-eq2 c = ask_failed _ _ _ _ _ _ _ _ (entry_found _ _ _ _ _ _ _ _ c.in_ok-found.ensures) c.if-found-eq2.true

pub count_void-requires : goal.count_void-requires
count_void-requires c = found_few _ _ _ _ _ _ _ _ (entry_found _ _ _ _ _ _ _ _ c.in_ok-found.ensures) c.requires

pub returns-in_err-count_void : goal.returns-in_err-count_void
returns-in_err-count_void c =
    let p = err_from_is_err_and c.from_residual-in_err-count_void.result c.from_residual-in_err-count_void.ensures.1 in
    rw (p.1, p.2) (ask_third _ _ _ _ _ _ _ _ (entry_found _ _ _ _ _ _ _ _ c.in_ok-found.ensures) c.if-found-eq2.false c.part-items.result c.part-items.ensures c.if-items-eq0.true _ _ c.in_err-count_void.ensures)

pub returns-then-items-eq0 : goal.returns-then-items-eq0
returns-then-items-eq0 c = ask_void _ _ _ _ _ _ _ _ (entry_found _ _ _ _ _ _ _ _ c.in_ok-found.ensures) c.if-found-eq2.false c.part-items.result c.part-items.ensures c.if-items-eq0.true _ c.in_ok-count_void.ensures

pub returns : goal.returns
returns c = ask_items _ _ _ _ _ _ _ _ (entry_found _ _ _ _ _ _ _ _ c.in_ok-found.ensures) c.if-found-eq2.false _ c.part-items.ensures c.if-items-eq0.false
