-- `mechanism_lookups::ask_mx` meets its contract. From the laws of Replies.
use Rattle.std.proofs.lemmas.Result.{err_from_is_err_and}
use Rattle.mechanism_lookups.proofs.Laws.Replies.{own_ended, own_temperror, own_void, mx_found, items_few_voids}
use Rattle.mechanism_lookups.proofs.ask_mx.Goals as goal

pub returns-in_err-ask : goal.returns-in_err-ask
returns-in_err-ask c = let p = err_from_is_err_and c.from_residual.result c.from_residual.ensures.1 in rw (p.1, p.2) (search (own_ended, c.in_err-ask.ensures))

pub returns-in-Failed : goal.returns-in-Failed
returns-in-Failed c = search (own_temperror, c.in_ok-ask.ensures)

pub returns-in-Void : goal.returns-in-Void
returns-in-Void c = search (own_void, c.in_ok-ask.ensures)

pub ask_items-requires : goal.ask_items-requires
ask_items-requires c = items_few_voids _ _ _ _ _ _ _ _ c.in-Items.is _ c.in_ok-ask.ensures c.requires

pub returns-in-Items : goal.returns-in-Items
returns-in-Items c = mx_found _ _ _ _ _ _ _ _ c.in-Items.is c.in_ok-ask.ensures _ _ _ _ _ c.ask_items.ensures
