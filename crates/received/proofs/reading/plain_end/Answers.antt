-- `received::reading::plain_end` meets its contract.
use Rattle.std.proofs.Common.{rules}
use Rattle.received.specs.States.{is_plain}
use Rattle.received.proofs.reading.plain_end.Goals as goal

pub returns : goal.returns
returns c = c.run_end_by.ensures is_plain (λ b r h k. search rules)
