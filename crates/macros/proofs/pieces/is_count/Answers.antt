-- `macros::pieces::is_count` meets its contract. From the laws of Reading.
use Rattle.macros.proofs.Laws.Reading.{count_none, count_value, count_large, count_other}
use Rattle.macros.proofs.pieces.is_count.Goals as goal

pub returns-then-not-every : goal.returns-then-not-every
returns-then-not-every c = search count_other

pub returns-then-is_empty : goal.returns-then-is_empty
returns-then-is_empty c = search count_none

pub returns-in-Some : goal.returns-in-Some
returns-in-Some c = search count_value

pub returns-in-None : goal.returns-in-None
returns-in-None c = search count_large
