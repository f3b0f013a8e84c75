-- `records::opening::open_record` meets its contract. From the laws of Openings.
use Rattle.records.proofs.Laws.Checking.{version_read}
use Rattle.records.proofs.Laws.Openings.{open_long, open_checked, open_other}
use Rattle.records.proofs.opening.open_record.Goals as goal

pub returns-then-s-gt-MOST_BYTES : goal.returns-then-s-gt-MOST_BYTES
returns-then-s-gt-MOST_BYTES c = search open_long

pub check_terms-requires : goal.check_terms-requires
check_terms-requires c = search version_read

pub returns-then-has_version : goal.returns-then-has_version
returns-then-has_version c = search open_checked

pub returns : goal.returns
returns c = search open_other
