-- `records::read_record` meets its contract. From what reading the record for any client answers, and the laws of Pointing.
use Rattle.records.proofs.Laws.Pointing.{record_answered, record_opened, record_short, record_pointed}
use Rattle.records.proofs.read_record.Goals as goal

pub point-requires : goal.point-requires
point-requires c = search record_short

pub returns-in-Ok : goal.returns-in-Ok
returns-in-Ok c = let v = record_answered _ _ (search record_opened) in record { value = v.0; reads_record = v.1 }

pub returns-in-Err : goal.returns-in-Err
returns-in-Err c = let v = record_answered _ _ (search record_pointed) in record { value = v.0; reads_record = v.1 }
