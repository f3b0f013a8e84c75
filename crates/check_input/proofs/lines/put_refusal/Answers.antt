-- `lines::put_refusal` meets its contract. From the laws of Lines.
use Rattle.check_input.proofs.Laws.Lines.{refusal_placed, refusal_numbered}
use Rattle.check_input.proofs.lines.put_refusal.Goals as goal

pub returns-in-Some : goal.returns-in-Some
returns-in-Some c = search refusal_placed

pub returns-in-None : goal.returns-in-None
returns-in-None c = search refusal_numbered
