-- `received::reading::is_written` meets its contract. From the laws of Reading.
use Rattle.received.proofs.Laws.Reading.{written_same, written_none}
use Rattle.received.proofs.reading.is_written.Goals as goal

pub returns-in-Ok : goal.returns-in-Ok
returns-in-Ok c = search written_same

pub returns-in-Err : goal.returns-in-Err
returns-in-Err c = search written_none
