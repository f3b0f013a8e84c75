-- `case_support::read_line` meets its contract. From the laws of Reading.
use Rattle.case_support.proofs.Laws.Reading.{reading_start, reading_next, line_read, none_read, whole_read}
use Rattle.case_support.proofs.read_line.Goals as goal

pub loop-i-init : goal.loop-i-init
loop-i-init g c = search reading_start

pub returns-then-i-eq0-clause-read : goal.returns-then-i-eq0-clause-read
returns-then-i-eq0-clause-read g c = search none_read

pub returns-else-i-eq0-clause-read : goal.returns-else-i-eq0-clause-read
returns-else-i-eq0-clause-read g c = search line_read

pub returns-then-byte-eq10-clause-read : goal.returns-then-byte-eq10-clause-read
returns-then-byte-eq10-clause-read g c = search line_read

pub loop-i-preserved : goal.loop-i-preserved
loop-i-preserved g c = search reading_next

pub returns-clause-read : goal.returns-clause-read
returns-clause-read g c = search whole_read
