-- `mechanisms::try_plain` meets its contract. From the laws of Trying.
use Rattle.std.proofs.lemmas.Result.{err_from_is_err_and}
use Rattle.mechanisms.proofs.Laws.Trying.{tried_all, tried_include, tried_network, tried_redirect, tried_explanation, tried_unknown, tried_asked, tried_ended, tries_a, tries_mx, tries_ptr, tries_exists, given_always}
use Rattle.mechanisms.proofs.try_plain.Goals as goal

pub returns-in_err-matches-in-A : goal.returns-in_err-matches-in-A
returns-in_err-matches-in-A c = let p = err_from_is_err_and c.from_residual.result c.from_residual.ensures.1 in rw (p.1, p.2) (tried_ended _ _ _ _ _ _ _ _ _ _ (tries_a _ _ _ _ _ _ _ _ _ _ _ _ _ _ _ _ c.given-spec.ensures _ c.length_of-prefix.ensures c.in-A.is c.in_err-matches-in-A.ensures))

pub returns-in_ok-matches-in-A : goal.returns-in_ok-matches-in-A
returns-in_ok-matches-in-A c = tried_asked _ _ _ _ _ _ _ _ _ _ (tries_a _ _ _ _ _ _ _ _ _ _ _ _ _ _ _ _ c.given-spec.ensures _ c.length_of-prefix.ensures c.in-A.is c.in_ok-matches-in-A.ensures)

pub returns-in_err-matches-in-Mx : goal.returns-in_err-matches-in-Mx
returns-in_err-matches-in-Mx c = let p = err_from_is_err_and c.from_residual-in_err-matches-in-Mx.result c.from_residual-in_err-matches-in-Mx.ensures.1 in rw (p.1, p.2) (tried_ended _ _ _ _ _ _ _ _ _ _ (tries_mx _ _ _ _ _ _ _ _ _ _ _ _ _ _ _ _ c.given-spec-in-Mx.ensures _ c.length_of-prefix-in-Mx.ensures c.in-Mx.is c.in_err-matches-in-Mx.ensures))

pub returns-in_ok-matches-in-Mx : goal.returns-in_ok-matches-in-Mx
returns-in_ok-matches-in-Mx c = tried_asked _ _ _ _ _ _ _ _ _ _ (tries_mx _ _ _ _ _ _ _ _ _ _ _ _ _ _ _ _ c.given-spec-in-Mx.ensures _ c.length_of-prefix-in-Mx.ensures c.in-Mx.is c.in_ok-matches-in-Mx.ensures)

pub returns-in_err-matches-in-Ptr : goal.returns-in_err-matches-in-Ptr
returns-in_err-matches-in-Ptr c = let p = err_from_is_err_and c.from_residual-in_err-matches-in-Ptr.result c.from_residual-in_err-matches-in-Ptr.ensures.1 in rw (p.1, p.2) (tried_ended _ _ _ _ _ _ _ _ _ _ (tries_ptr _ _ _ _ _ _ _ _ _ _ _ _ _ 0 c.in-Ptr.is _ c.given-spec-in-Ptr.ensures c.in_err-matches-in-Ptr.ensures))

pub returns-in_ok-matches-in-Ptr : goal.returns-in_ok-matches-in-Ptr
returns-in_ok-matches-in-Ptr c = tried_asked _ _ _ _ _ _ _ _ _ _ (tries_ptr _ _ _ _ _ _ _ _ _ _ _ _ _ 0 c.in-Ptr.is _ c.given-spec-in-Ptr.ensures c.in_ok-matches-in-Ptr.ensures)

pub returns-in_err-matches-in-Exists : goal.returns-in_err-matches-in-Exists
returns-in_err-matches-in-Exists c = let p = err_from_is_err_and c.from_residual-in_err-matches-in-Exists.result c.from_residual-in_err-matches-in-Exists.ensures.1 in rw (p.1, p.2) (tried_ended _ _ _ _ _ _ _ _ _ _ (tries_exists _ _ _ _ _ _ _ _ _ _ _ _ _ 0 c.in-Exists.is _ (given_always c.args.w.now c.in-Exists.from c.in-Exists.to c.part.result c.part.ensures) c.in_err-matches-in-Exists.ensures))

pub returns-in_ok-matches-in-Exists : goal.returns-in_ok-matches-in-Exists
returns-in_ok-matches-in-Exists c = tried_asked _ _ _ _ _ _ _ _ _ _ (tries_exists _ _ _ _ _ _ _ _ _ _ _ _ _ 0 c.in-Exists.is _ (given_always c.args.w.now c.in-Exists.from c.in-Exists.to c.part.result c.part.ensures) c.in_ok-matches-in-Exists.ensures)

pub returns-in-All : goal.returns-in-All
returns-in-All c = search tried_all

pub returns-in-Include : goal.returns-in-Include
returns-in-Include c = search tried_include

pub returns-in-Redirect : goal.returns-in-Redirect
returns-in-Redirect c = search tried_redirect

pub returns-in-Explanation : goal.returns-in-Explanation
returns-in-Explanation c = search tried_explanation

pub returns-in-Unknown : goal.returns-in-Unknown
returns-in-Unknown c = search tried_unknown

pub returns-in-Network : goal.returns-in-Network
returns-in-Network c = tried_network _ _ _ _ _ _ _ _ _ _ _ _ c.in-Network.is _ c.matches.ensures.value
