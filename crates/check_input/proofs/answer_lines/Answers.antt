-- `check_input::answer_lines` meets its contract. From the laws of Inputs.
use Rattle.check_input.proofs.Laws.Inputs.{no_client, no_time, both_read}
use Rattle.check_input.proofs.answer_lines.Goals as goal

pub returns-in_default : goal.returns-in_default
returns-in_default c = search no_client

pub returns-in_default-read_decimal : goal.returns-in_default-read_decimal
returns-in_default-read_decimal c = search no_time

pub returns : goal.returns
returns c = search both_read
