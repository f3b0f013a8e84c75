-- `records::next_term` meets its contract. From the laws of Checking and Reading.
use Rattle.records.proofs.Laws.Reading.{end_inside}
use Rattle.records.proofs.Laws.Checking.{term_found, term_long, term_past}
use Rattle.records.proofs.next_term.Goals as goal

pub returns-then-s-gt-MOST_BYTES : goal.returns-then-s-gt-MOST_BYTES
returns-then-s-gt-MOST_BYTES c = search term_long

pub returns-then-s-at : goal.returns-then-s-at
returns-then-s-at c = search term_past

pub term_from-requires : goal.term_from-requires
term_from-requires c = search end_inside

pub returns : goal.returns
returns c = search term_found
