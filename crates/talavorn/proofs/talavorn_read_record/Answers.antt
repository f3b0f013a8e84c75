-- `talavorn_read_record` meets its contract. From the laws of Ways.
use Rattle.talavorn.proofs.Laws.Ways.{record_accepted, record_refused}
use Rattle.talavorn.proofs.talavorn_read_record.Goals as goal

pub returns-in-Ok : goal.returns-in-Ok
returns-in-Ok c = search record_accepted

pub returns-in-Err : goal.returns-in-Err
returns-in-Err c = search record_refused
