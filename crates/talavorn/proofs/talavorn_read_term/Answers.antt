-- `talavorn_read_term` meets its contract. From the laws of Ways.
use Rattle.talavorn.proofs.Laws.Ways.{term_fits, term_end, term_refused, term_read}
use Rattle.talavorn.proofs.talavorn_read_term.Goals as goal

pub put_term-requires : goal.put_term-requires
put_term-requires c = term_fits _ _ _ c.read_term.ensures.value _ c.in-Ok.is _ c.in-Some.is

pub returns-in-Err : goal.returns-in-Err
returns-in-Err c = search term_refused

pub returns-in_default : goal.returns-in_default
returns-in_default c = search term_end

pub returns : goal.returns
returns c = search term_read
