-- `text::bytes::peek` meets its contract. From the laws of Classes.
use Rattle.text.proofs.Laws.Classes.{past_end}
use Rattle.text.proofs.bytes.peek.Goals as goal

pub returns-else-i-s : goal.returns-else-i-s
returns-else-i-s c = search past_end
