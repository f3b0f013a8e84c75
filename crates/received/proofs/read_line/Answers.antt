-- `received::read_line` meets its contract. From the laws of Inverse and Reading.
use Rattle.received.proofs.Laws.Inverse.{read_right}
use Rattle.received.proofs.Laws.Reading.{too_long, line_read, line_refused}
use Rattle.received.proofs.read_line.Goals as goal

pub returns-then-line-gt-MOST_LINE : goal.returns-then-line-gt-MOST_LINE
returns-then-line-gt-MOST_LINE c = record { value = search too_long; reads_line = read_right _ _ (search too_long) }

pub returns-then-is_line : goal.returns-then-is_line
returns-then-is_line c = record { value = search line_read; reads_line = read_right _ _ (search line_read) }

pub returns-else-is_line : goal.returns-else-is_line
returns-else-is_line c = record { value = search line_refused; reads_line = read_right _ _ (search line_refused) }
