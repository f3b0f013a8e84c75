-- The check of a domain, the terms of its record, include and redirect meet their contracts; they call each other, and the remaining lookups fall.
-- From the rules of Laws.Beginning and Laws.Walking, one for each way out.
use Prim.Native.Nat.{◌+◌, ◌-◌, ◌*◌}
use lib.ListN.{length}
use Rattle.rules.specs.Outcomes.{mail_in, span_of}
use Rattle.evaluation.proofs.Laws.Walking.{Walk}
use Rattle.evaluation.proofs.check.+checks.Given as goal

abbrev pub decreases-begin_check : goal.decreases-begin_check
decreases-begin_check l = 7 * (10 - l.progress.now.counts.lookups) + 1

abbrev pub decreases-check_domain : goal.decreases-check_domain
decreases-check_domain l = 7 * (10 - l.progress.now.counts.lookups) + 6

abbrev pub decreases-evaluate_record : goal.decreases-evaluate_record
decreases-evaluate_record l = 7 * (10 - l.progress.now.counts.lookups) + 5

abbrev pub decreases-include : goal.decreases-include
decreases-include l = 7 * (10 - l.progress.now.counts.lookups) + 2

abbrev pub decreases-no_match : goal.decreases-no_match
decreases-no_match l = 7 * (10 - l.progress.now.counts.lookups) + 2

abbrev pub decreases-try_term : goal.decreases-try_term
decreases-try_term l = 7 * (10 - l.progress.now.counts.lookups) + 3

abbrev pub decreases-try_terms : goal.decreases-try_terms
decreases-try_terms l = 7 * (10 - l.progress.now.counts.lookups) + 4

abbrev pub invariant-try_terms-loop-read : goal.invariant-try_terms-loop-read
invariant-try_terms-loop-read l =
    Walk l.table (mail_in l.mail) (span_of l.table l.place.domain) l.s 6 l.initial.out l.initial.progress.counts l.initial.progress.life
    l.out l.at l.progress.counts l.progress.life

abbrev pub decreases-try_terms-loop-read : goal.decreases-try_terms-loop-read
decreases-try_terms-loop-read l = length l.s + 1 - l.at
