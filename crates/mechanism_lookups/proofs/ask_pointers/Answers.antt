-- `mechanism_lookups::ask_pointers` meets its contract. From the laws of Replies.
use Rattle.std.proofs.lemmas.Result.{err_from_is_err_and}
use Rattle.mechanism_lookups.proofs.Laws.Replies.{own_ended, own_skipped, own_void, pointers_found, items_few_voids}
use Rattle.mechanism_lookups.proofs.ask_pointers.Goals as goal

pub returns-in_err-ask : goal.returns-in_err-ask
returns-in_err-ask c = let p = err_from_is_err_and c.from_residual.result c.from_residual.ensures.1 in rw (p.1, p.2) (search (own_ended, c.in_err-ask.ensures))

pub returns-in-Failed : goal.returns-in-Failed
returns-in-Failed c = search (own_skipped, c.in_ok-ask.ensures)

pub returns-in-Void : goal.returns-in-Void
returns-in-Void c = search (own_void, c.in_ok-ask.ensures)

pub ask_names-requires : goal.ask_names-requires
ask_names-requires c = items_few_voids _ _ _ _ _ _ _ _ c.in-Items.is _ c.in_ok-ask.ensures c.requires

pub returns-in-Items : goal.returns-in-Items
returns-in-Items c = pointers_found _ _ _ _ _ _ _ _ c.in-Items.is c.in_ok-ask.ensures _ _ _ _ _ c.ask_names.ensures
