-- `evaluation::decide` meets its contract. From the rules of Laws.Deciding.
use Rattle.evaluation.proofs.Laws.Deciding.{decide_placed, decide_wants, decide_result}
use Rattle.evaluation.proofs.decide.Goals as goal

pub finish-requires : goal.finish-requires
finish-requires c = search decide_placed

pub returns-in-Ok : goal.returns-in-Ok
returns-in-Ok c = search decide_result

pub returns-in-Err : goal.returns-in-Err
returns-in-Err c = search decide_wants
