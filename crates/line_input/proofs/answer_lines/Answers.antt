-- `line_input::answer_lines` meets its contract. From the laws of Inputs.
use Rattle.line_input.proofs.Laws.Inputs.{no_result, no_client, no_identity, all_read}
use Rattle.line_input.proofs.answer_lines.Goals as goal

pub returns-then-number-ge7 : goal.returns-then-number-ge7
returns-then-number-ge7 c = search no_result

pub returns-in_default : goal.returns-in_default
returns-in_default c = search no_client

pub returns-in_default-identity_named : goal.returns-in_default-identity_named
returns-in_default-identity_named c = search no_identity

pub returns : goal.returns
returns c = search all_read
