-- The check of a domain, the terms of its record, include and redirect meet their contracts; they call each other, and the remaining lookups fall.
-- From the rules of Laws.Beginning, Laws.Leading and Laws.Walking, one for each way out.
use Rattle.std.proofs.Common.{rules, arith}
use Rattle.std.proofs.lemmas.Result.{err_from_is_err_and}
use mathlib.Core.Path.{refl, ap}
use Rattle.rules.specs.declared.Counts.{Counts}
use Rattle.evaluation.proofs.Laws.Beginning.{begin_eleventh, begin_malformed, begin_wants, begin_checked, target_small, target_counts, domain_single, domain_ends, domain_missing, domain_one, domain_selected, include_done, include_wants, tried_ends, tried_matches, tried_counts, tried_include, nothing_left, redirected, redirect_wants}
use Rattle.evaluation.proofs.Laws.Leading.{walk_opened, record_fits, open_underway, underway_failable, record_refused, record_tried, record_matched}
use Rattle.evaluation.proofs.Laws.Walking.{walk_ended, walk_refused, walk_yes, walk_result, walk_wants, walk_on, walk_less}
use Rattle.evaluation.proofs.check.+checks.Goals as goal
use Rattle.evaluation.proofs.check.+checks.Goals.{try_terms-in_default-via-in-Ok+in_default, try_terms-in_default-via-in_default}

pub begin_check-returns-then-progress-ge10 : goal.begin_check-returns-then-progress-ge10
begin_check-returns-then-progress-ge10 t c = search begin_eleventh

pub begin_check-returns-in_err-n : goal.begin_check-returns-in_err-n
begin_check-returns-in_err-n t c = let p = err_from_is_err_and c.from_residual.result c.from_residual.ensures.1 in rw (p.1, p.2) (search (begin_wants, c.in_err-n.was))

pub begin_check-returns-in_default : goal.begin_check-returns-in_default
begin_check-returns-in_default t c = search (begin_malformed, c.in_ok-n.was)

pub begin_check-check_domain-requires : goal.begin_check-check_domain-requires
begin_check-check_domain-requires t c =
    let k = target_counts _ _ _ _ _ _ _ c.if-progress-ge10.false _ _ _ _ _ _ c.of.ensures c.make_target.ensures _ c.in_ok-n.was _ c.in-Some.is in
    let i = ap (λ (x : Counts). x.lookups) k in
    let j = ap (λ (x : Counts). x.voids) k in
    (omega (arith, i), (search (target_small, c.in_ok-n.was), omega (arith, i), omega (arith, j, c.requires.2)))

pub begin_check-returns : goal.begin_check-returns
begin_check-returns t c = search (begin_checked, c.in_ok-n.was)

pub check_domain-returns-then-count_labels-le1 : goal.check_domain-returns-then-count_labels-le1
check_domain-returns-then-count_labels-le1 t c = search domain_single

pub check_domain-evaluate_record-requires : goal.check_domain-evaluate_record-requires
check_domain-evaluate_record-requires t c = (omega arith, (c.requires.1, c.requires.2, search (domain_selected, rules)))

pub check_domain-returns-in-Ends : goal.check_domain-returns-in-Ends
check_domain-returns-in-Ends t c = search domain_ends

pub check_domain-returns-in-Missing : goal.check_domain-returns-in-Missing
check_domain-returns-in-Missing t c = search domain_missing

pub check_domain-returns-in-One : goal.check_domain-returns-in-One
check_domain-returns-in-One t c = search (domain_one, c.requires)

pub evaluate_record-returns-in_default : goal.evaluate_record-returns-in_default
evaluate_record-returns-in_default t c = search record_refused

pub evaluate_record-in_table-exp-requires : goal.evaluate_record-in_table-exp-requires
evaluate_record-in_table-exp-requires t c = search (record_fits, rules)

pub evaluate_record-try_terms-requires : goal.evaluate_record-try_terms-requires
evaluate_record-try_terms-requires t c = (omega arith, (c.requires.0, c.requires.1, search (open_underway, c.requires, rules)))

pub evaluate_record-returns-in-Matched : goal.evaluate_record-returns-in-Matched
evaluate_record-returns-in-Matched t c = search (record_matched, c.requires)

pub evaluate_record-returns-in-Open : goal.evaluate_record-returns-in-Open
evaluate_record-returns-in-Open t c = search record_tried

pub include-begin_check-requires : goal.include-begin_check-requires
include-begin_check-requires t c = (omega arith, c.requires)

pub include-returns-in_err-checked : goal.include-returns-in_err-checked
include-returns-in_err-checked t c = let p = err_from_is_err_and c.from_residual.result c.from_residual.ensures.1 in rw (p.1, p.2) (search (include_wants, c.in_err-checked.was))

pub include-returns : goal.include-returns
include-returns t c = search (include_done, c.in_ok-checked.was)

pub no_match-returns-in_default : goal.no_match-returns-in_default
no_match-returns-in_default t c = search nothing_left

pub no_match-begin_check-requires : goal.no_match-begin_check-requires
no_match-begin_check-requires t c = (omega arith, c.requires)

pub no_match-returns-in_err-checked : goal.no_match-returns-in_err-checked
no_match-returns-in_err-checked t c = let p = err_from_is_err_and c.from_residual.result c.from_residual.ensures.1 in rw (p.1, p.2) (search (redirect_wants, c.in_err-checked.was))

pub no_match-returns : goal.no_match-returns
no_match-returns t c = search (redirected, c.in_ok-checked.was)

pub try_term-returns-in_err-matches : goal.try_term-returns-in_err-matches
try_term-returns-in_err-matches t c = let p = err_from_is_err_and c.from_residual.result c.from_residual.ensures.1 in rw (p.1, p.2) (search (tried_ends, c.in_err-matches.was))

pub try_term-include-requires : goal.try_term-include-requires
try_term-include-requires t c =
    let k = tried_counts _ _ _ _ c.of.ensures _ _ _ _ _ _ _ c.try_plain.ensures _ c.in_ok-matches.was _ c.in-Include.is in
    let i = ap (λ (x : Counts). x.lookups) k in
    let j = ap (λ (x : Counts). x.voids) k in
    (omega (arith, i), (c.requires.0, omega (arith, i, c.requires.1), omega (arith, j, c.requires.2)))

pub try_term-returns-in-Matches : goal.try_term-returns-in-Matches
try_term-returns-in-Matches t c = search (tried_matches, c.in_ok-matches.was)

pub try_term-returns-in-Include : goal.try_term-returns-in-Include
try_term-returns-in-Include t c = search (tried_include, c.in_ok-matches.was)

pub try_terms-loop-read-init : goal.try_terms-loop-read-init
try_terms-loop-read-init t c = search walk_opened

pub try_terms-no_match-requires : goal.try_terms-no_match-requires
try_terms-no_match-requires t c = (omega (arith, c.loop-read.invariant.grows), (c.requires.2.failing.short, c.loop-read.invariant.small, c.loop-read.invariant.few))

pub try_terms-returns-in_default : goal.try_terms-returns-in_default
try_terms-returns-in_default t c =
    elim c.in_default.branch [
      | try_terms-in_default-via-in-Ok+in_default w ↦ search (walk_ended, c.requires, w.in_default.ensures)
      | try_terms-in_default-via-in_default w ↦ search (walk_refused, c.requires, w.in_default.is)
    ]

pub try_terms-try_term-requires : goal.try_terms-try_term-requires
try_terms-try_term-requires t c = (omega (arith, c.loop-read.invariant.grows), (c.requires.2.failing.short, c.loop-read.invariant.small, c.loop-read.invariant.few))

pub try_terms-returns-in-Ok-true : goal.try_terms-returns-in-Ok-true
try_terms-returns-in-Ok-true t c =
    walk_yes _ _ _ _ _ _ _ _ _ _ _ _ c.loop-read.invariant _ c.of-s.ensures _ c.next_term.ensures _ c.in-Ok-Some.is _ c.in-Ok-Some.field-0-is _ c.part-w.ensures
    _ _ _ _ c.try_term.ensures _ refl (underway_failable c.requires.2) _ c.in-Ok-true.is c.in-Ok-true.field-0-test _ (rw (← c.sign_of.ensures) c.sign_result.ensures)

pub try_terms-returns-in-Err-Result : goal.try_terms-returns-in-Err-Result
try_terms-returns-in-Err-Result t c = search walk_result

pub try_terms-returns-in-Err-Wanting : goal.try_terms-returns-in-Err-Wanting
try_terms-returns-in-Err-Wanting t c = search walk_wants

pub try_terms-loop-read-smaller : goal.try_terms-loop-read-smaller
try_terms-loop-read-smaller t c = search walk_less

pub try_terms-loop-read-preserved : goal.try_terms-loop-read-preserved
try_terms-loop-read-preserved t c = search walk_on
