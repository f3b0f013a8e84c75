-- `records::read_term` meets its contract. From the laws of Pointing, one for each way out.
use Rattle.records.proofs.Laws.Pointing.{term_answered, term_kept, term_short, term_pointed}
use Rattle.records.proofs.read_term.Goals as goal

pub returns-in-Ok : goal.returns-in-Ok
returns-in-Ok c = let v = term_answered _ _ _ (search term_kept) in record { value = v.0; reads_term = v.1 }

pub point-requires : goal.point-requires
point-requires c = search term_short

pub returns-in-Err : goal.returns-in-Err
returns-in-Err c = let v = term_answered _ _ _ (search term_pointed) in record { value = v.0; reads_term = v.1 }
