-- `text::bytes::to_lower` meets its contract. From the laws of Classes.
use Rattle.text.proofs.Laws.Classes.{ascii_lower}
use Rattle.text.proofs.bytes.to_lower.Goals as goal

pub returns : goal.returns
returns c = search ascii_lower
