-- `mechanism_lookups::names::ask_name` meets its contract. From the laws of Replies.
use Rattle.std.proofs.lemmas.Result.{err_from_is_err_and}
use Rattle.mechanism_lookups.proofs.Laws.Replies.{own_ended, own_skipped, own_void, name_below, name_elsewhere}
use Rattle.mechanism_lookups.proofs.names.ask_name.Goals as goal

pub returns-in_err-ask : goal.returns-in_err-ask
returns-in_err-ask c = let p = err_from_is_err_and c.from_residual.result c.from_residual.ensures.1 in rw (p.1, p.2) (search (own_ended, c.in_err-ask.ensures))

pub returns-in-Failed : goal.returns-in-Failed
returns-in-Failed c = search (own_skipped, c.in_ok-ask.ensures)

pub returns-in-Void : goal.returns-in-Void
returns-in-Void c = search (own_void, c.in_ok-ask.ensures)

pub returns-then-not-at_or_below : goal.returns-then-not-at_or_below
returns-then-not-at_or_below c = name_elsewhere _ _ _ _ _ _ _ _ c.address_kind.ensures _ c.in_ok-ask.ensures _ c.in-Items.is _ _ c.at_or_below.ensures c.if-not-at_or_below.true

pub returns-else-not-at_or_below : goal.returns-else-not-at_or_below
returns-else-not-at_or_below c = name_below _ _ _ _ _ _ _ _ c.address_kind.ensures _ c.in_ok-ask.ensures _ c.in-Items.is _ _ c.at_or_below.ensures c.if-not-at_or_below.false _ c.width-width.ensures _ c.any_matches.ensures
