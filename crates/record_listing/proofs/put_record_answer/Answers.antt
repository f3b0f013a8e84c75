-- `record_listing::put_record_answer` meets its contract. From the laws of Walking.
use Rattle.record_listing.proofs.Laws.Walking.{accepted_written, refused_written}
use Rattle.record_listing.proofs.put_record_answer.Goals as goal

pub returns-in-Ok : goal.returns-in-Ok
returns-in-Ok c = search accepted_written

pub returns-in-Err : goal.returns-in-Err
returns-in-Err c = search refused_written
